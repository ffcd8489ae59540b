use Rattle.std.proofs.Common.{◌≡◌, ℕ, drop}
use Rattle.std.specs.Prelude.{slice_get}
use Rattle.program_walks.specs.Walks.{all_at}
use Rattle.executive_program.specs.declared.Source.{Source}
use Rattle.order_check.specs.Calls.{carries}
use Rattle.order_check.proofs.calling.carry_inputs.Given as goal

-- the sources that are left decide
abbrev pub invariant-loop-place : goal.invariant-loop-place
invariant-loop-place l = all_at (λ (k : ℕ) (x : Source). carries l.program l.vertices x (slice_get l.ins k)) l.place
    (drop l.place l.sources) ≡ all_at (λ (k : ℕ) (x : Source). carries l.program l.vertices x (slice_get l.ins k)) 0 l.sources
