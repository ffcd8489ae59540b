use Rattle.std.proofs.Common.{◌≡◌, ℕ, ◌&&◌, drop, nat_eq}
use Rattle.executive_program.specs.declared.program.Instr.{Instr}
use Rattle.program_walks.specs.Walks.{all_at, implies}
use Rattle.program_walks.specs.Acts.{is_act}
use Rattle.program_walks.proofs.acts.no_other_in.Given as goal

-- the instructions that are left decide
abbrev pub invariant-loop-place : goal.invariant-loop-place
invariant-loop-place l = all_at
    (λ (b : ℕ) (y : Instr). implies (is_act l.act l.pair y) (nat_eq l.sequence l.stand.sequence && nat_eq b l.stand.at)) l.place
    (drop l.place l.list) ≡ all_at (λ (b : ℕ) (y : Instr). implies (is_act l.act l.pair y) (nat_eq l.sequence l.stand.sequence && nat_eq b l.stand.at)) 0 l.list
