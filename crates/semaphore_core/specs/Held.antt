-- What a state holds beside the state of a run: the micro-steps of
-- its program, laid out, and the room of its registers.
use Rattle.std.specs.Prelude.{
  ◌≡◌,
  ℕ,
  ◌+◌,
  ◌<◌,
  ◌≤◌,
  ◌^◌,
  cond,
  true,
  nat_lt,
  List,
  length,
  Option,
  Some,
  None,
  slice_get,
  slice_index_or,
}
use Rattle.executive_program.specs.Owners.{sum_below}
use Rattle.executive_program.specs.declared.Vertex.{Vertex}
use Rattle.executive_program.specs.declared.Kind.TheVariants.{Actuator, Sensor}
use Rattle.executive_program.specs.FlatValid.{is_flat}
use Rattle.executive_program.specs.Graph.{lens_of}
use Rattle.executive_program.specs.Fire.{cell_len, seen_len}
use Rattle.executive_program.specs.declared.steps.OnLoad.{OnLoad}
use Rattle.executive_program.specs.declared.steps.OnLoad.TheVariants.{Gather, Carry as CarryIn, Compute as ComputeIn}
use Rattle.executive_program.specs.declared.steps.OnStore.{OnStore}
use Rattle.executive_program.specs.declared.steps.OnStore.TheVariants.{Give, Carry as CarryOut, Compute as ComputeOut}
use Rattle.executive_program.specs.declared.steps.MicroStep.{MicroStep}
use Rattle.executive_program.specs.declared.steps.MicroStep.TheVariants.{Signal, Advance, Load, Store}
use Rattle.executive_program.specs.declared.expand.SeqSteps.{SeqSteps}
use Rattle.executive_program.specs.Expanded.{AreSteps}
use Rattle.operation_desks.specs.Operation.{delay_of}
use Rattle.operation_desks.specs.Desk.{DeskLens, HasDesk}
use Rattle.operation_desks.specs.Rooms.{Fits}
use Rattle.semaphore_core.specs.Parts.{Kept}
use Rattle.executive_program.specs.Steps.{steps}
use Rattle.executive_program.specs.Instructions.{HasPlaces}
use Rattle.semaphore_core.specs.Job.{JobData, reactions, total_steps}
use Rattle.semaphore_core.specs.Core.{Core, count, full, is_enabled, IsReached}
use Rattle.semaphore_core.specs.declared.answer.StepAnswer.{StepAnswer}
use Rattle.semaphore_core.specs.declared.answer.StepAnswer.TheVariants.{Stepped, NotYet, Finished}
use Rattle.syn_base.specs.Vectors.{vector_at}

-- Operations that are laid out can be computed: each has a place for its desk, and what
-- it keeps and senses has the lengths of its kind.
pub record AreReady (j : JobData) (k : Kept) : Type 0 where
  pub valid : is_flat j.graph ≡ true
  pub desks_there : length k.desks ≡ length j.graph.vertices
  pub cells_fit : (v : ℕ) (x : Vertex) (c : ℕ) → slice_get j.graph.vertices v ≡ Some x →
      delay_of j.graph v x ≡ Some c → (c < length k.cells) × (length (vector_at k.cells c) ≡ cell_len j.graph v)
  pub no_cell : (v : ℕ) (x : Vertex) → slice_get j.graph.vertices v ≡ Some x → delay_of j.graph v x ≡ None →
      cell_len j.graph v ≡ 0
  pub rows_there : length k.rows ≡ reactions j
  pub sensor_fits : (v : ℕ) (x : Vertex) (i : ℕ) → slice_get j.graph.vertices v ≡ Some x → x.kind ≡ Sensor i →
      (i < length j.lens) × (slice_index_or j.lens i 0 ≡ seen_len j.graph v)

-- Where operation v is an actuator, its rows are laid out in their length, among
-- rows of these lengths. Rows may be laid out for some operations alone.
abbrev pub HasRow : JobData → List ℕ → ℕ → Type 0
HasRow j lens v = (x : Vertex) (a : ℕ) → slice_get j.graph.vertices v ≡ Some x → x.kind ≡ Actuator a →
    (a < length lens) × (slice_index_or lens a 0 ≡ slice_index_or (lens_of j.graph.vertices x.ins) 0 0)

-- Operation v is laid out, among rows of these lengths and these desks: it
-- has its rows, and in its place stands its desk.
pub record IsLaid (j : JobData) (lens : List ℕ) (desks : List (Option DeskLens)) (v : ℕ) : Type 0 where
  pub row : HasRow j lens v
  pub desk : (x : Vertex) (o : Option DeskLens) → slice_get j.graph.vertices v ≡ Some x →
      slice_get desks v ≡ Some o → HasDesk j.graph v x o

-- the operation that a load or a store computes is laid out
abbrev pub LoadIsLaid : JobData → List ℕ → List (Option DeskLens) → OnLoad → Type 0
LoadIsLaid j lens desks CarryIn = Unit {0}
LoadIsLaid j lens desks (Gather r) = Unit {0}
LoadIsLaid j lens desks (ComputeIn v r more) = IsLaid j lens desks v

-- If the store computes an operation, that is laid out; any other store needs nothing.
abbrev pub StoreIsLaid : JobData → List ℕ → List (Option DeskLens) → OnStore → Type 0
StoreIsLaid j lens desks (ComputeOut v more) = IsLaid j lens desks v
StoreIsLaid j lens desks CarryOut = Unit {0}
StoreIsLaid j lens desks (Give r more) = Unit {0}

-- A state that is stepped holds the state of the run, the micro-steps of each
-- sequence, and what was laid out for registers and operations.
pub record Held : Type 0 where
  pub core : Core
  pub steps : List SeqSteps
  -- how many registers each sequence has room for
  pub rooms : List ℕ
  -- the lengths of the actuators' vectors, and the operations' desks
  pub lens : List ℕ
  pub desks : List (Option DeskLens)

-- This is what the operations of a state keep, its cells and rows, with the lengths of
-- the rows and the desks.
abbrev pub kept_of : Held → Kept
kept_of h = record { cells = h.core.cells; rows = h.core.rows; lens = h.lens; desks = h.desks }

-- how many micro-steps all sequences together have made
abbrev pub made : Core → ℕ
made z = sum_below (count z) (length z.counts)

-- the word that the micro-step raises is below the end of its type
abbrev pub FitsWord : Core → MicroStep → Type 0
FitsWord z (Signal x) = slice_index_or z.semaphores x 0 + 1 < 2 ^ 64
FitsWord z (Advance m) = slice_index_or z.turns m 0 + 1 < 2 ^ 64
FitsWord z _ = Unit {0}

-- loads and stores are made within the reactions
abbrev pub NeedsReaction : MicroStep → ℕ → ℕ → Type 0
NeedsReaction (Load x then) k n = k < n
NeedsReaction (Store x what) k n = k < n
NeedsReaction _ k n = Unit {0}

module _ (j : JobData) where
  -- The state was opened for this job, and steps were made since.
  pub record IsOpened (h : Held) : Type 0 where
    -- some list of sequence numbers leads to it from the opening state
    pub reached : IsReached j h.core
    pub places : HasPlaces j.program
    pub ready : AreReady j (kept_of h)
    pub laid : (v : ℕ) → IsLaid j h.lens h.desks v
    pub steps_are : AreSteps j.program h.steps
    pub counts_there : length h.core.counts ≡ length j.program.seqs
    pub rooms_there : length h.rooms ≡ length j.program.seqs
    pub registers_there : length h.core.registers ≡ length j.program.seqs
    -- no count is above its full count, and no word above the number of micro-steps made
    pub within : (s : ℕ) → count h.core s ≤ full j s
    pub semaphores_few : (x : ℕ) → slice_index_or h.core.semaphores x 0 ≤ made h.core
    pub turns_few : (m : ℕ) → slice_index_or h.core.turns m 0 ≤ made h.core
    pub total : total_steps j.program (reactions j) ≤ 20000000
    pub in_prologue : (s l : ℕ) → Fits j.graph (slice_index_or h.rooms s 0) (slice_get (steps j.program s).prologue l)
    -- a prologue neither loads nor stores
    pub bare : (s l : ℕ) (m : MicroStep) → slice_get (steps j.program s).prologue l ≡ Some m → NeedsReaction m 0 0
    pub in_turn : (s l : ℕ) → Fits j.graph (slice_index_or h.rooms s 0) (slice_get (steps j.program s).turn l)

  -- what a step of sequence s answers
  abbrev pub answer : Core → ℕ → StepAnswer
  answer z s = cond (nat_lt (count z s) (full j s)) (cond (is_enabled j z s) Stepped NotYet) Finished
