use Rattle.std.proofs.Common.{subst, ◌++◌, ◌∙◌, ◌≡◌}
use Rattle.std.specs.Prelude.{OnOk, codes}
use Rattle.syn_base.specs.Bytes.{Bytes}
use Rattle.chart_picture.specs.Bars.{dates_text, title_of}
use Rattle.svg_text.proofs.Appending.{four}
use Rattle.chart_picture.proofs.bars.append_title_of_run.Goals as goal

pub returns : goal.returns
unfolding title_of
returns c =
    subst (λ (l : Bytes). OnOk c.append-3.result (c.append-3.new.out.items ≡ l))
    (four c.args.out.now.items c.append.new.out.items c.append_dates.new.out.items c.append-2.new.out.items
    c.operation_name.result.now (dates_text c.args.start c.args.end) (codes " on ") c.operator_name.result.now
    c.in_ok-append.ensures.text c.in_ok-append_dates.ensures c.in_ok-append-2.ensures.text
    ∙ (λ i. c.args.out.now.items ++ (c.operation_name.ensures i ++ (dates_text c.args.start c.args.end ++ (codes " on " ++ c.operator_name.ensures i)))))
    c.append-3.ensures.text
