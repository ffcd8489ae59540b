use Rattle.std.proofs.Common.{◌≡◌, drop}
use Rattle.algo_check.specs.Placing.{misplaced_all}
use Rattle.algo_check.proofs.standing.check_standing.Given as goal

abbrev pub invariant-loop-i : goal.invariant-loop-i
invariant-loop-i l = misplaced_all l.defs l.defs ≡ misplaced_all l.defs (drop l.i l.defs)
