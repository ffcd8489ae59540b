use Rattle.std.proofs.Common.{◌≡◌, ℕ, ◌&&◌, drop, nat_eq}
use Rattle.executive_program.specs.declared.program.Instr.{Instr}
use Rattle.program_walks.specs.Walks.{all_at, implies}
use Rattle.executive_program.specs.declared.program.SeqCode.{SeqCode}
use Rattle.program_walks.specs.Acts.{is_act}
use Rattle.program_walks.proofs.acts.no_other.Given as goal

-- the sequences that are left decide
abbrev pub invariant-loop-sequence : goal.invariant-loop-sequence
invariant-loop-sequence l = all_at
    (λ (t : ℕ) (q : SeqCode). all_at
    (λ (b : ℕ) (y : Instr). implies (is_act l.act l.pair y) (nat_eq t l.stand.sequence && nat_eq b l.stand.at)) 0 q.turn) l.sequence
    (drop l.sequence l.program.seqs)
    ≡ all_at (λ (t : ℕ) (q : SeqCode). all_at
    (λ (b : ℕ) (y : Instr). implies (is_act l.act l.pair y) (nat_eq t l.stand.sequence && nat_eq b l.stand.at)) 0 q.turn) 0 l.program.seqs
