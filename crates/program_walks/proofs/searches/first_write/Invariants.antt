use Rattle.std.proofs.Common.{◌≡◌, ◌+◌, drop}
use Rattle.std.specs.List.{position_or_len}
use Rattle.executive_program.specs.Instructions.{writes}
use Rattle.program_walks.proofs.searches.first_write.Given as goal

-- the instructions that are left decide
abbrev pub invariant-loop-place : goal.invariant-loop-place
invariant-loop-place l = l.place + position_or_len (writes l.buffer) (drop l.place l.list) ≡ position_or_len (writes l.buffer) l.list
