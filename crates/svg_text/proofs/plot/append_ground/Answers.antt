use Rattle.std.proofs.Common.{subst, ◌≡◌}
use Rattle.std.specs.Prelude.{OnOk, codes}
use Rattle.std.specs.Fmt.{decimal}
use Rattle.syn_base.specs.Bytes.{Bytes}
use Rattle.svg_text.specs.Plot.{ground_text}
use Rattle.svg_text.proofs.Appending.{three}
use Rattle.svg_text.proofs.plot.append_ground.Goals as goal

pub returns : goal.returns
unfolding ground_text
returns c =
    subst (λ (l : Bytes). OnOk c.append-2.result (c.append-2.new.out.items ≡ l))
    (three c.args.out.now.items c.append.new.out.items c.append_count.new.out.items
    (codes "<path class=\"lane\" d=\"M0 0H") (decimal c.args.width) (codes "V120H0z\"/>\n")
    c.in_ok-append.ensures.text c.in_ok-append_count.ensures.text)
    c.append-2.ensures.text
