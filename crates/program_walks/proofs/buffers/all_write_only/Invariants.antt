use Rattle.std.proofs.Common.{◌≡◌, ℕ, ◌&&◌, drop, nat_eq}
use Rattle.executive_program.specs.declared.program.Instr.{Instr}
use Rattle.program_walks.specs.Walks.{all_at}
use Rattle.program_walks.specs.Buffers.{writes_only}
use Rattle.program_walks.proofs.buffers.all_write_only.Given as goal

-- the instructions that are left decide
abbrev pub invariant-loop-at : goal.invariant-loop-at
invariant-loop-at l = all_at (λ (a : ℕ) (x : Instr). writes_only l.buffer l.written.port
    (nat_eq l.sequence l.written.writer && nat_eq a l.written.at) x) l.at (drop l.at l.list)
    ≡ all_at (λ (a : ℕ) (x : Instr). writes_only l.buffer l.written.port (nat_eq l.sequence l.written.writer && nat_eq a l.written.at) x) 0 l.list
