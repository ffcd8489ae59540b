use Rattle.std.proofs.Common.{◌≡◌, drop}
use Rattle.elaboration.specs.Walked.{bad_all}
use Rattle.elaboration.proofs.standing.check_marks.Given as goal

abbrev pub invariant-loop-i : goal.invariant-loop-i
invariant-loop-i l = bad_all l.defs l.defs ≡ bad_all l.defs (drop l.i l.defs)
