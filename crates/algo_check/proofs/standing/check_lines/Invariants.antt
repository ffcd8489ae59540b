use Rattle.std.proofs.Common.{◌≡◌, drop}
use Rattle.algo_check.specs.Placing.{misplaced_in}
use Rattle.algo_check.proofs.standing.check_lines.Given as goal

abbrev pub invariant-loop-k : goal.invariant-loop-k
invariant-loop-k l = misplaced_in l.defs l.owner l.mentions ≡ misplaced_in l.defs l.owner (drop l.k l.mentions)
