use Rattle.std.proofs.Common.{subst, ◌++◌, ◌∙◌, ◌≡◌}
use Rattle.std.specs.Prelude.{OnOk, codes}
use Rattle.syn_base.specs.Bytes.{Bytes}
use Rattle.chart_picture.specs.Bars.{way_text}
use Rattle.svg_text.proofs.Appending.{six}
use Rattle.chart_picture.proofs.bars.append_way.Goals as goal

pub returns : goal.returns
unfolding way_text
returns c =
    subst (λ (l : Bytes). OnOk c.append-6.result (c.append-6.new.out.items ≡ l))
    (six c.args.out.now.items c.append.new.out.items c.append-2.new.out.items c.append-3.new.out.items c.append-4.new.out.items c.append-5.new.out.items
    (codes " over ") c.medium_name.result.now (codes ", ") c.operator_name.result.now (codes " to ") c.operator_name-2.result.now
    c.in_ok-append.ensures.text c.in_ok-append-2.ensures.text c.in_ok-append-3.ensures.text c.in_ok-append-4.ensures.text c.in_ok-append-5.ensures.text
    ∙ (λ i. c.args.out.now.items ++ (codes " over " ++ (c.medium_name.ensures i ++ (codes ", " ++ (c.operator_name.ensures i ++ (codes " to " ++ c.operator_name-2.ensures i)))))))
    c.append-6.ensures.text
