use Rattle.algo_check.specs.Counts.{AreCounts}
use Rattle.algo_check.proofs.counts.all_counts.Given as goal

abbrev pub invariant-loop : goal.invariant-loop
invariant-loop l = AreCounts l.defs l.counter l.counts.items
