use Rattle.std.proofs.Common.{◌≡◌, ◌++◌, drop}
use Rattle.body_check.specs.Cycles.{flagged}
use Rattle.body_check.proofs.cycles.flagged.Given as goal

abbrev pub invariant-loop-at : goal.invariant-loop-at
invariant-loop-at l = l.names.items ++ flagged (drop l.at l.flags) (drop l.at l.references) ≡ flagged l.flags l.references
