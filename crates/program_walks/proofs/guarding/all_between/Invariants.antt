use Rattle.std.proofs.Common.{◌≡◌, ℕ, ◌&&◌, drop, nat_lt}
use Rattle.executive_program.specs.declared.program.Instr.{Instr}
use Rattle.program_walks.specs.Walks.{all_at, implies}
use Rattle.executive_program.specs.Instructions.{reads}
use Rattle.program_walks.proofs.guarding.all_between.Given as goal

-- the instructions that are left decide
abbrev pub invariant-loop-at : goal.invariant-loop-at
invariant-loop-at l = all_at (λ (a : ℕ) (x : Instr). implies (reads l.buffer x) (nat_lt l.after a && nat_lt a l.before)) l.at
    (drop l.at l.list) ≡ all_at (λ (a : ℕ) (x : Instr). implies (reads l.buffer x) (nat_lt l.after a && nat_lt a l.before)) 0 l.list
