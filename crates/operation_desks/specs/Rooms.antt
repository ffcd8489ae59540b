-- How many registers micro-steps use, and room for as many as a sequence needs.
use Rattle.std.specs.Prelude.{ℕ, ◌+◌, ◌<◌, max, sum, List, [], ◌∷◌, map, Option, Some, None}
use Rattle.executive_program.specs.Graph.{Graph}
use Rattle.executive_program.specs.Fire.{out_lens}
use Rattle.executive_program.specs.declared.steps.OnLoad.{OnLoad}
use Rattle.executive_program.specs.declared.steps.OnLoad.TheVariants.{Gather, Carry as CarryIn, Compute as ComputeIn}
use Rattle.executive_program.specs.declared.steps.OnStore.{OnStore}
use Rattle.executive_program.specs.declared.steps.OnStore.TheVariants.{Compute as ComputeOut}
use Rattle.executive_program.specs.declared.steps.MicroStep.{MicroStep}
use Rattle.executive_program.specs.declared.steps.MicroStep.TheVariants.{Load, Store}
use Rattle.executive_program.specs.declared.expand.SeqSteps.{SeqSteps}
use Rattle.operation_desks.specs.RegisterFile.{RegisterFile}

-- The highest number of a register that a micro-step uses; a computation
-- may fill as many as the operation has output elements.
module _ (g : Graph) where
  -- The outputs of operation v have this many elements together, and 0 if there is no operation v.
  abbrev pub outputs_len : ℕ → ℕ
  outputs_len v = sum (out_lens g v)

  -- The load fills no register above this number, also if it computes an operation,
  -- whose outputs then fill the registers.
  abbrev pub top_load : OnLoad → ℕ
  top_load CarryIn = 0
  top_load (Gather r) = r
  top_load (ComputeIn v r more) = max r (outputs_len v)

  -- The store fills no register above this number, which is 0 unless it computes an operation.
  abbrev pub top_store : OnStore → ℕ
  top_store (ComputeOut v more) = outputs_len v
  top_store _ = 0

  -- The micro-step fills no register above this number, which is 0 if it is neither a
  -- load nor a store.
  abbrev pub top : MicroStep → ℕ
  top (Load x then) = top_load then
  top (Store x what) = top_store what
  top _ = 0

  -- These micro-steps fill no register above this number, which is 0 if there are none.
  abbrev pub highest : List MicroStep → ℕ
  highest [] = 0
  highest (m ∷ ms) = max (top m) (highest ms)

  -- this many registers are enough for the micro-step
  abbrev pub Fits : ℕ → Option MicroStep → Type 0
  Fits room None = Unit {0}
  Fits room (Some m) = top m < room

-- numbers begin at 0, so that there is one register more than the highest number that the sequence uses
abbrev pub room_of : Graph → SeqSteps → ℕ
room_of g q = max (highest g q.prologue) (highest g q.turn) + 1

-- no register is in use
abbrev pub empty_registers : Graph → SeqSteps → RegisterFile
empty_registers g q = record { values = []; room = room_of g q }

-- Each of these sequences has room for the registers that it needs, and none of them is in use.
abbrev pub all_registers : Graph → List SeqSteps → List RegisterFile
all_registers g list = map (empty_registers g) list
