use Rattle.std.proofs.Common.{◌≡◌, drop}
use Rattle.check_places.specs.First.{first_failing}
use Rattle.check_places.specs.Calls.{is_same}
use Rattle.check_places.proofs.calls.first_other.Given as goal

-- what is left gives the first
abbrev pub invariant-loop-other : goal.invariant-loop-other
invariant-loop-other l = first_failing (is_same l.mark) (drop l.other-index l.marks) ≡ first_failing (is_same l.mark) l.marks
