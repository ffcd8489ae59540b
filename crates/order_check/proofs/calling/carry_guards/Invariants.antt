use Rattle.std.proofs.Common.{◌≡◌, ℕ, drop}
use Rattle.std.specs.Prelude.{slice_get}
use Rattle.program_walks.specs.Walks.{all_at}
use Rattle.executive_program.specs.declared.Guard.{Guard}
use Rattle.order_check.specs.Calls.{carries}
use Rattle.order_check.proofs.calling.carry_guards.Given as goal

-- the guards that are left decide
abbrev pub invariant-loop-place : goal.invariant-loop-place
invariant-loop-place l = all_at (λ (k : ℕ) (d : Guard). carries l.program l.vertices d.source (slice_get l.ins k)) l.place
    (drop l.place l.guards) ≡ all_at (λ (k : ℕ) (d : Guard). carries l.program l.vertices d.source (slice_get l.ins k)) 0 l.guards
