use Rattle.std.proofs.Common.{◌≡◌, ◌++◌, drop}
use Rattle.algo_check.specs.Counts.{next_from}
use Rattle.algo_check.proofs.counts.next_counts.Given as goal

abbrev pub invariant-loop-place : goal.invariant-loop-place
invariant-loop-place l = l.next.items ++ next_from l.defs l.counts l.place (drop l.place l.defs) ≡ next_from l.defs l.counts 0 l.defs
