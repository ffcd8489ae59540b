use Rattle.std.proofs.Common.{◌≡◌, ◌++◌, drop}
use Rattle.elaboration.specs.Marking.{marks_from}
use Rattle.elaboration.proofs.marking.marks_on.Given as goal

abbrev pub invariant-loop-place : goal.invariant-loop-place
invariant-loop-place l = l.marks.items ++ marks_from l.place (drop l.place l.references) ≡ marks_from 0 l.references
