-- How many elements the actuators take, counted operation by operation, and micro-steps without laying them out.
use Rattle.std.specs.Prelude.{◌≡◌, ℕ, ◌*◌}
use Rattle.std.specs.List.{sum_by}
use Rattle.executive_program.specs.declared.Vertex.{Vertex}
use Rattle.executive_program.specs.Graph.{Graph}
use Rattle.executive_program.specs.FlatLaws.{actuator_len}
use Rattle.executive_program.specs.declared.program.Program.{Program}
use Rattle.executive_program.specs.Sizes.{prologue_looks, turn_looks, deep_pairs}

-- how many elements an operation takes, where it is an actuator
abbrev pub taken_by : Graph → Vertex → ℕ
taken_by g x = sum_by (λ l. l) (actuator_len g x x.kind)

-- The prologues look at nothing, and the loops twice for each deep pair. Every well-formed program is so.
pub record CountsLooks (p : Program) : Type 0 where
  pub before : prologue_looks p ≡ 0
  pub within : turn_looks p ≡ 2 * deep_pairs p
