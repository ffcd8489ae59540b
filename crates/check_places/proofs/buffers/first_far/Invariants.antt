use Rattle.std.proofs.Common.{◌≡◌, drop}
use Rattle.check_places.specs.First.{first_failing}
use Rattle.check_places.specs.Buffers.{is_near_at}
use Rattle.check_places.proofs.buffers.first_far.Given as goal

-- what is left gives the first
abbrev pub invariant-loop-mark : goal.invariant-loop-mark
invariant-loop-mark l = first_failing (is_near_at l.program l.buffer) (drop l.mark-index l.marks) ≡ first_failing (is_near_at l.program l.buffer) l.marks
