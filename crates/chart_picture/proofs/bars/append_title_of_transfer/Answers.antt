use Rattle.std.proofs.Common.{subst, ◌++◌, ◌∙◌, ◌≡◌}
use Rattle.std.specs.Prelude.{OnOk, codes}
use Rattle.std.specs.Fmt.{decimal}
use Rattle.syn_base.specs.Bytes.{Bytes}
use Rattle.chart_picture.specs.Bars.{dates_text, title_of, way_text}
use Rattle.svg_text.proofs.Appending.{five}
use Rattle.chart_picture.proofs.bars.append_title_of_transfer.Goals as goal

pub returns : goal.returns
unfolding title_of
returns c =
    subst (λ (l : Bytes). OnOk c.append_way.result (c.append_way.new.out.items ≡ l))
    (five c.args.out.now.items c.append.new.out.items c.append-2.new.out.items c.append_count.new.out.items c.append_dates.new.out.items
    c.operation_name.result.now (codes ", output ") (decimal c.args.transfer.source.port) (dates_text c.args.start c.args.end)
    (way_text c.args.sheet.now.archi.now c.args.transfer.medium c.args.transfer.from c.args.transfer.to)
    c.in_ok-append.ensures.text c.in_ok-append-2.ensures.text c.in_ok-append_count.ensures.text c.in_ok-append_dates.ensures
    ∙ (λ i. c.args.out.now.items ++
    (c.operation_name.ensures i ++ (codes ", output "
    ++ (decimal c.args.transfer.source.port
    ++ (dates_text c.args.start c.args.end ++ way_text c.args.sheet.now.archi.now c.args.transfer.medium c.args.transfer.from c.args.transfer.to))))))
    c.append_way.ensures
