use Rattle.std.proofs.Common.{◌≡◌, replicate}
use Rattle.macro_check.proofs.running.no_counts.Given as goal

abbrev pub invariant-loop-count : goal.invariant-loop-count
invariant-loop-count l = l.done.items ≡ replicate l._count 0
