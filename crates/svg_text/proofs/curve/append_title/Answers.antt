use Rattle.std.proofs.Common.{subst, ◌≡◌}
use Rattle.std.specs.Prelude.{OnOk, codes}
use Rattle.std.specs.Fmt.{decimal}
use Rattle.syn_base.specs.Bytes.{Bytes}
use Rattle.svg_text.specs.Plot.{title_text}
use Rattle.svg_text.proofs.Appending.{four}
use Rattle.svg_text.proofs.curve.append_title.Goals as goal

pub returns : goal.returns
unfolding title_text
returns c =
    subst (λ (l : Bytes). OnOk c.append-3.result (c.append-3.new.out.items ≡ l))
    (four c.args.out.now.items c.append.new.out.items c.append-2.new.out.items c.append_count.new.out.items
    c.args.name.now (codes "[") (decimal c.args.place) (codes "]")
    c.in_ok-append.ensures.text c.in_ok-append-2.ensures.text c.in_ok-append_count.ensures.text)
    c.append-3.ensures.text
