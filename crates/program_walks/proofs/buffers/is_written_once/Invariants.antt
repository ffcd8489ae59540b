use Rattle.std.proofs.Common.{◌≡◌, ℕ, ◌&&◌, drop, nat_eq}
use Rattle.executive_program.specs.declared.program.Instr.{Instr}
use Rattle.program_walks.specs.Walks.{all_at}
use Rattle.executive_program.specs.declared.program.SeqCode.{SeqCode}
use Rattle.program_walks.specs.Buffers.{writes_only}
use Rattle.program_walks.proofs.buffers.is_written_once.Given as goal

-- the sequences that are left decide
abbrev pub invariant-loop-sequence : goal.invariant-loop-sequence
invariant-loop-sequence l = all_at
    (λ (s : ℕ) (q : SeqCode). all_at
    (λ (a : ℕ) (x : Instr). writes_only l.buffer l.written.port
    (nat_eq s l.written.writer && nat_eq a l.written.at) x) 0 q.turn) l.sequence (drop l.sequence l.program.seqs)
    ≡ all_at (λ (s : ℕ) (q : SeqCode). all_at
    (λ (a : ℕ) (x : Instr). writes_only l.buffer l.written.port (nat_eq s l.written.writer && nat_eq a l.written.at) x) 0 q.turn) 0 l.program.seqs
