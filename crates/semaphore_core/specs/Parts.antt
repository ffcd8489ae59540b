-- What the sequences of a state or of a driver have of their own,
-- and what the loads and stores of one of them leave of it.
use Rattle.std.specs.Prelude.{ℕ, List, [], Option, Some, slice_index_or, slice_set, ℤ}
use Rattle.syn_base.specs.Rows.{Reactions}
use Rattle.executive_program.specs.declared.Vertex.{Vertex}
use Rattle.executive_program.specs.declared.steps.OnLoad.{OnLoad}
use Rattle.executive_program.specs.declared.steps.OnStore.{OnStore}
use Rattle.operation_desks.specs.Desk.{DeskLens}
use Rattle.operation_desks.specs.RegisterFile.{RegisterFile}
use Rattle.operation_desks.specs.Registers.{Own, compute, compute_by, absorb_by, emit_by, after_by}
use Rattle.semaphore_core.specs.Job.{JobData}
use Rattle.syn_base.specs.Vectors.{Values}

-- the delays' cells, the actuators' rows with the lengths of their vectors, and the places of the operations' desks
pub record Kept : Type 0 where
  pub cells : Values
  pub rows : List Values
  pub lens : List ℕ
  pub desks : List (Option DeskLens)

-- The sequences of a state or of a driver have this of their own: registers, by
-- sequence, and the cells and rows of the operations that they call.
pub record Parts : Type 0 where
  -- by sequence: the registers that are in use, and how many it has room for
  pub registers : List (List ℤ)
  pub rooms : List ℕ
  -- of the operations that the sequences call
  pub kept : Kept

-- what one sequence has of its own: the one with these registers, beside what operations keep, or beside these cells
-- and rows; and sequence s
abbrev pub own_of : RegisterFile → Kept → Own
own_of r k = record { registers = r.values; cells = k.cells; rows = k.rows }

abbrev pub own_with : RegisterFile → Values → Reactions → Own
own_with r cells rows = record { registers = r.values; cells = cells; rows = rows.reactions }

-- Sequence s has this of its own: its registers, which are empty if there is no
-- sequence s, and the cells and rows of the operations.
abbrev pub own_at : Parts → ℕ → Own
own_at p s = record { registers = slice_index_or p.registers s []; cells = p.kept.cells; rows = p.kept.rows }

-- the registers, cells and rows of this, and the rest as it is
abbrev pub with_values : RegisterFile → Own → RegisterFile
with_values r c = record r { values = c.registers }

-- The cells and rows become those of c; the lengths of the rows and the desks are as before.
abbrev pub with_kept : Kept → Own → Kept
with_kept kept c = record kept { cells = c.cells; rows = c.rows }

-- sequence s has this of its own now
abbrev pub with_own : Parts → ℕ → Own → Parts
with_own p s c = record { registers = slice_set p.registers s c.registers; rooms = p.rooms; kept = with_kept p.kept c }

module _ (j : JobData) where
  -- What a sequence has of its own after operation v was computed in reaction k; where it is known that this is x; and
  -- after a load of element z.
  abbrev pub computed : ℕ → ℕ → Own → Own
  computed v k c = compute j.graph j.sensors v k c.registers c

  abbrev pub computed_by : ℕ → Vertex → ℕ → Own → Own
  computed_by v x k c = compute_by j.graph j.sensors v k c.registers c (Some x)

  -- A sequence has this of its own after it loaded element z in reaction k.
  abbrev pub absorbed : OnLoad → ℕ → Own → ℤ → Own
  absorbed then k c z = absorb_by j.graph j.sensors then k c z

  -- what it stores, and what it has after that
  abbrev pub emitted : OnStore → ℕ → Own → ℤ
  emitted what k c = emit_by j.graph j.sensors what k c

  -- A sequence has this of its own after it made a store in reaction k.
  abbrev pub left : OnStore → ℕ → Own → Own
  left what k c = after_by j.graph j.sensors what k c

  -- after sequence s has loaded element z in reaction k, and after it has stored
  abbrev pub with_load : Parts → ℕ → ℕ → OnLoad → ℤ → Parts
  with_load p s k then z = with_own p s (absorbed then k (own_at p s) z)

  -- This is what the sequences have of their own after s made a store in reaction k.
  abbrev pub with_store : Parts → ℕ → ℕ → OnStore → Parts
  with_store p s k what = with_own p s (left what k (own_at p s))

  -- what it stores
  abbrev pub value_stored : Parts → ℕ → ℕ → OnStore → ℤ
  value_stored p s k what = emitted what k (own_at p s)
