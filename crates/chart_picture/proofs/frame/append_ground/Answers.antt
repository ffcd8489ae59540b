use Rattle.std.proofs.Common.{subst, ◌≡◌}
use Rattle.std.specs.Prelude.{OnOk, codes}
use Rattle.std.specs.Fmt.{decimal}
use Rattle.syn_base.specs.Bytes.{Bytes}
use Rattle.svg_text.specs.Shapes.{class_text}
use Rattle.chart_picture.specs.Frame.{ground_text}
use Rattle.svg_text.proofs.Appending.{five}
use Rattle.chart_picture.proofs.frame.append_ground.Goals as goal

pub returns : goal.returns
unfolding ground_text
returns c =
    subst (λ (l : Bytes). OnOk c.append-3.result (c.append-3.new.out.items ≡ l))
    (five c.args.out.now.items c.append.new.out.items c.append_class.new.out.items c.append-2.new.out.items c.append_count.new.out.items
    (codes "<path") (class_text c.args.class.now) (codes " d=\"M0 2H") (decimal c.args.width) (codes "V34H0z\"/>\n")
    c.in_ok-append.ensures.text c.in_ok-append_class.ensures c.in_ok-append-2.ensures.text c.in_ok-append_count.ensures.text)
    c.append-3.ensures.text
