use Rattle.std.proofs.Common.{subst, ◌++◌, ◌∙◌, ◌≡◌}
use Rattle.std.specs.Prelude.{OnOk, codes}
use Rattle.syn_base.specs.Bytes.{Bytes}
use Rattle.svg_text.specs.Shapes.{bar_end, bar_text}
use Rattle.self_timed.specs.Acts.{carry}
use Rattle.chart_picture.specs.Bars.{bar_line, label_text, title_of}
use Rattle.svg_text.proofs.Appending.{four}
use Rattle.chart_picture.proofs.bars.append_carry.Goals as goal

pub returns : goal.returns
unfolding bar_line
returns c =
    subst (λ (l : Bytes). OnOk c.append_label.result (c.append_label.new.out.items ≡ l))
    (four c.args.out.now.items c.begin_bar.new.out.items c.append_title_of_transfer.new.out.items c.end_bar.new.out.items
    (bar_text (codes "transfer") c.place-left.result c.place-right.result)
    (title_of c.args.sheet.now.flat.now c.args.sheet.now.archi.now c.args.transfer.start c.args.transfer.end
    (carry c.args.transfer)) bar_end (label_text c.place-left.result c.place-right.result c.operation_name.result.now)
    c.in_ok-begin_bar.ensures c.in_ok-append_title_of_transfer.ensures c.in_ok-end_bar.ensures
    ∙ (λ i. c.args.out.now.items ++
    (bar_text (codes "transfer") (c.place-left.ensures.place i) (c.place-right.ensures.place i)
    ++ (title_of c.args.sheet.now.flat.now c.args.sheet.now.archi.now c.args.transfer.start c.args.transfer.end (carry c.args.transfer)
    ++ (bar_end ++ label_text (c.place-left.ensures.place i) (c.place-right.ensures.place i) (c.operation_name.ensures i))))))
    c.append_label.ensures
