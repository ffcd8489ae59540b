use Rattle.std.proofs.Common.{◌≡◌, ◌+◌, drop}
use Rattle.executive_program.specs.Places.{communication_at}
use Rattle.program_walks.proofs.searches.communication_at.Given as goal

-- the instructions that are left decide
abbrev pub invariant-loop-place : goal.invariant-loop-place
invariant-loop-place l = l.place + communication_at (drop l.place l.list) l.left ≡ communication_at l.list l.number
