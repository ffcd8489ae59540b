use Rattle.std.proofs.Common.{subst, ◌≡◌}
use Rattle.std.specs.Prelude.{OnOk, codes}
use Rattle.std.specs.Fmt.{decimal}
use Rattle.syn_base.specs.Bytes.{Bytes}
use Rattle.svg_text.specs.Plot.{begin_text, colour}
use Rattle.svg_text.proofs.Appending.{four}
use Rattle.svg_text.proofs.curve.append_begin.Goals as goal

pub returns : goal.returns
unfolding begin_text
returns c =
    subst (λ (l : Bytes). OnOk c.append_count-2.result (c.append_count-2.new.out.items ≡ l))
    (four c.args.out.now.items c.append.new.out.items c.append_count.new.out.items c.append-2.new.out.items
    (codes "<path class=\"curve line") (decimal (colour c.args.place)) (codes "\" d=\"M0 ") (decimal c.args.height)
    c.in_ok-append.ensures.text c.in_ok-append_count.ensures.text c.in_ok-append-2.ensures.text)
    c.append_count-2.ensures.text
