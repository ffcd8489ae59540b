use Rattle.std.proofs.Common.{◌≡◌, ℕ, drop, nat_lt}
use Rattle.executive_program.specs.declared.program.Instr.{Instr}
use Rattle.program_walks.specs.Walks.{all_at, implies}
use Rattle.executive_program.specs.Instructions.{reads}
use Rattle.program_walks.proofs.buffers.all_read_after.Given as goal

-- the instructions that are left decide
abbrev pub invariant-loop-at : goal.invariant-loop-at
invariant-loop-at l = all_at (λ (a : ℕ) (x : Instr). implies (reads l.buffer x) (nat_lt l.written_at a)) l.at (drop l.at l.list)
    ≡ all_at (λ (a : ℕ) (x : Instr). implies (reads l.buffer x) (nat_lt l.written_at a)) 0 l.list
