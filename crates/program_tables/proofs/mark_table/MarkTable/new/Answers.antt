use Rattle.std.proofs.Common.{ap, length, map, ◌∙◌}
use Rattle.program_tables.specs.MarkRows.{row}
use Rattle.program_tables.proofs.Rowing.{grouped, many_added}
use Rattle.program_tables.proofs.mark_table.MarkTable.new.Goals as goal

pub loop-mark-preserved : goal.loop-mark-preserved
loop-mark-preserved c =
    let rows = map (λ v. v.items) c.loop-mark.rows.items in
    let e = c.in_ok-add.ensures in record {
      many = ap length e ∙ many_added _ _ ∙ c.loop-mark.invariant.many;
      each = λ n l. ap (λ rows. row rows n) e ∙ grouped _ _ c.loop-mark.mark-index c.args.count _ c.loop-mark-test.true c.loop-mark.invariant.many c.loop-mark.invariant.each n l;
    }
