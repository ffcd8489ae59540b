use Rattle.std.proofs.Common.{◌≡◌, replicate}
use Rattle.program_tables.proofs.openings.no_counts.Given as goal

abbrev pub invariant-loop-count : goal.invariant-loop-count
invariant-loop-count l = l.passed.items ≡ replicate l._count 0
