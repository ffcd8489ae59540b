use Rattle.std.proofs.Common.{subst, ◌≡◌}
use Rattle.std.specs.Prelude.{OnOk, codes}
use Rattle.syn_base.specs.Bytes.{Bytes}
use Rattle.svg_text.specs.Shapes.{aside_text, words_end}
use Rattle.svg_text.specs.Plot.{name_text}
use Rattle.svg_text.proofs.Appending.{three}
use Rattle.svg_text.proofs.plot.append_name.Goals as goal

pub returns : goal.returns
unfolding name_text
returns c =
    subst (λ (l : Bytes). OnOk c.end_text.result (c.end_text.new.out.items ≡ l))
    (three c.args.out.now.items c.begin_aside.new.out.items c.append.new.out.items
    (aside_text (codes "name") (codes "64")) c.args.name.now words_end
    c.in_ok-begin_aside.ensures c.in_ok-append.ensures.text)
    c.end_text.ensures
