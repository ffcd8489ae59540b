use Rattle.std.proofs.Common.{◌≡◌, map, replicate, []}
use Rattle.program_tables.proofs.mark_table.empty_rows.Given as goal

abbrev pub invariant-loop-row : goal.invariant-loop-row
invariant-loop-row l = map (λ v. v.items) l.rows.items ≡ replicate l._row []
