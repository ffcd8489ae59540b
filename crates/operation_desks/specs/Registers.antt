-- What loads and stores do with a sequence's registers, the delays' cells and the actuators' rows.
use Rattle.std.specs.Prelude.{
  ℕ,
  take,
  Bool,
  cond,
  List,
  [],
  ◌∷◌,
  ◌++◌,
  Option,
  Some,
  None,
  slice_get,
  slice_index_or,
  ℤ,
  pos,
}
use Rattle.executive_program.specs.Level.{element_at, all_joined}
use Rattle.executive_program.specs.declared.Vertex.{Vertex}
use Rattle.executive_program.specs.Graph.{Graph}
use Rattle.executive_program.specs.declared.steps.OnLoad.{OnLoad}
use Rattle.executive_program.specs.declared.steps.OnLoad.TheVariants.{Gather, Carry as CarryIn, Compute as ComputeIn}
use Rattle.executive_program.specs.declared.steps.OnStore.{OnStore}
use Rattle.executive_program.specs.declared.steps.OnStore.TheVariants.{Give, Carry as CarryOut, Compute as ComputeOut}
use Rattle.executive_program.specs.declared.steps.MicroStep.{MicroStep}
use Rattle.executive_program.specs.declared.steps.MicroStep.TheVariants.{Load, Store}
use Rattle.operation_desks.specs.Operation.{lens_in, vectors_from, outputs_of, cells_left, rows_left}
use Rattle.syn_base.specs.Vectors.{Values}

-- what a micro-step of one sequence may change beside the words
pub record Own : Type 0 where
  -- what the sequence's current instruction has loaded or computed
  pub registers : List ℤ
  -- by the delay's number
  pub cells : Values
  -- by reaction and actuator
  pub rows : List Values

-- The registers become r; the cells and the rows are as before.
abbrev pub with_registers : Own → List ℤ → Own
with_registers c r = record { registers = r; cells = c.cells; rows = c.rows }

-- the registers are those of the current instruction: with its last micro-step they are empty
abbrev pub kept : Bool → Own → Own
kept more c = with_registers c (cond more c.registers [])

-- z is the register of number r, and the last one
abbrev pub gathered : List ℤ → ℕ → ℤ → List ℤ
gathered registers r z = take r registers ++ z ∷ []

module _ (g : Graph) (sensors : List Values) where
  -- the computation of operation v in reaction k on what was loaded
  abbrev pub compute_by : ℕ → ℕ → List ℤ → Own → Option Vertex → Own
  compute_by v k loaded c None = with_registers c []
  compute_by v k loaded c (Some x) = let vs = vectors_from loaded 0 (lens_in g x) in record {
    registers = all_joined (outputs_of g v x vs c.cells (slice_index_or sensors k []));
    cells = cells_left g v x vs c.cells;
    rows = rows_left g x k vs c.rows;
  }

  -- This is what a sequence has of its own after it computed operation v in reaction k on what was
  -- loaded; if there is no operation v, its registers become empty and the rest is as before.
  abbrev pub compute : ℕ → ℕ → List ℤ → Own → Own
  compute v k loaded c = compute_by v k loaded c (slice_get g.vertices v)

  -- after z was loaded in reaction k
  abbrev pub absorb_by : OnLoad → ℕ → Own → ℤ → Own
  absorb_by CarryIn k c z = with_registers c (z ∷ [])
  absorb_by (Gather r) k c z = with_registers c (gathered c.registers r z)
  absorb_by (ComputeIn v r more) k c z = kept more (compute v k (gathered c.registers r z) c)

  -- what is stored, and what is left then
  abbrev pub emit_by : OnStore → ℕ → Own → ℤ
  emit_by CarryOut k c = element_at c.registers 0
  emit_by (Give r more) k c = element_at c.registers r
  emit_by (ComputeOut v more) k c = element_at (compute v k [] c).registers 0

  -- This is what a sequence has of its own after a store in reaction k. The registers are
  -- empty after a store of a transfer, and after the last micro-step of a call.
  abbrev pub after_by : OnStore → ℕ → Own → Own
  after_by CarryOut k c = with_registers c []
  after_by (Give r more) k c = kept more c
  after_by (ComputeOut v more) k c = kept more (compute v k [] c)

  -- of a micro-step that is a load, or a store
  abbrev pub absorb_at : Option MicroStep → ℕ → Own → ℤ → Own
  absorb_at (Some (Load x then)) k c z = absorb_by then k c z
  absorb_at _ k c z = c

  -- A micro-step that is a store stores this value in reaction k; it is 0 for any
  -- other micro-step, and for none.
  abbrev pub emit_at : Option MicroStep → ℕ → Own → ℤ
  emit_at (Some (Store x what)) k c = emit_by what k c
  emit_at _ k c = pos 0

  -- This is what a sequence has of its own after a micro-step that is a store; any
  -- other micro-step, and none, leaves it as it was.
  abbrev pub after_at : Option MicroStep → ℕ → Own → Own
  after_at (Some (Store x what)) k c = after_by what k c
  after_at _ k c = c
