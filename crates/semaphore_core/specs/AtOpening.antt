-- What a state has when it is opened: a place for each desk, and room for the registers of each sequence.
use Rattle.std.specs.Prelude.{◌≡◌, List, [], map, length, replicate}
use Rattle.semaphore_core.specs.Job.{JobData}
use Rattle.executive_program.specs.declared.expand.SeqSteps.{SeqSteps}
use Rattle.semaphore_core.specs.Parts.{Parts}
use Rattle.operation_desks.specs.Rooms.{room_of}
use Rattle.semaphore_core.specs.Held.{AreReady}

-- Of sequences with these micro-steps: no register is in use, and there is room for those
-- that they need. The cells are the opening ones, and what is laid out can be computed.
pub record AreAtOpening (j : JobData) (list : List SeqSteps) (p : Parts) : Type 0 where
  pub registers : p.registers ≡ replicate (length list) []
  pub rooms : p.rooms ≡ map (room_of j.graph) list
  pub cells : p.kept.cells ≡ j.opening
  pub ready : AreReady j p.kept
