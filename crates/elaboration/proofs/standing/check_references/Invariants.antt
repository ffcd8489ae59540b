use Rattle.std.proofs.Common.{◌≡◌, drop}
use Rattle.elaboration.specs.Walked.{bad_in}
use Rattle.elaboration.proofs.standing.check_references.Given as goal

abbrev pub invariant-loop-k : goal.invariant-loop-k
invariant-loop-k l = bad_in l.defs l.owner l.references ≡ bad_in l.defs l.owner (drop l.k l.references)
