-- The end of a fabric, driver by driver from the last group on.
use Rattle.std.specs.Prelude.{
  ◌≡◌,
  ℕ,
  ◌+◌,
  ◌<◌,
  ◌≤◌,
  ◌%◌,
  Option,
  Some,
  None,
  List,
  [],
  length,
  slice_get,
  slice_index_or,
}
use Rattle.atomic_table.specs.Seated.{TableId}
use Rattle.syn_base.specs.Rows.{Reactions}
use Rattle.executive_program.specs.declared.Vertex.{Vertex}
use Rattle.executive_program.specs.declared.Kind.TheVariants.{Actuator}
use Rattle.executive_program.specs.FlatLaws.{actuator_lens}
use Rattle.word_rule.specs.Job.{JobData, reactions}
use Rattle.word_rule.specs.Held.{HasRow}
use Rattle.word_rule.specs.Operation.{delay_of}
use Rattle.word_rule.specs.Told.{own_after}
use Rattle.word_rule.specs.Agrees.{caller, row_at}
use Rattle.word_rule.specs.declared.view.View.{View}
use Rattle.word_rule.specs.Table.{SeatData}
use Rattle.word_rule.specs.Steps.{with_seat}
use Rattle.word_rule.specs.Views.{count_by}
use Rattle.word_rule.specs.Words.{table_len}
use Rattle.word_table.specs.declared.remains.Remains.{Remains}
use Rattle.word_table.specs.declared.driver_parts.DriverParts.{DriverParts}
use Rattle.word_table.specs.declared.fabric_parts.FabricParts.{FabricParts}
use Rattle.word_table.specs.Owners.{owners}
use Rattle.syn_base.specs.Vectors.{Values, vector_at}

-- After the counts of others were taken over for a group: those of its sequences are theirs, and all else is as it was.
pub record TakesCounts (old new others : List ℕ) (groups group : ℕ) : Type 0 where
  pub many : length new ≡ length old
  pub here : (s : ℕ) → s < length old → s % groups ≡ group → slice_index_or new s 0 ≡ slice_index_or others s 0
  pub elsewhere : (s : ℕ) → (s % groups ≡ group → ⊥) → slice_index_or new s 0 ≡ slice_index_or old s 0

-- likewise the cells of a group's delays
pub record TakesCells (old new others : Values) (owners : List ℕ) (groups group : ℕ) : Type 0 where
  pub many : length new ≡ length old
  pub here : (d s : ℕ) → d < length old → slice_get owners d ≡ Some s → s % groups ≡ group →
      vector_at new d ≡ vector_at others d
  pub elsewhere : (d s : ℕ) → slice_get owners d ≡ Some s → (s % groups ≡ group → ⊥) → vector_at new d ≡ vector_at old d

-- rows have as many vectors as there are lengths
abbrev pub AreWide : Reactions → Type 0
AreWide r = (k : ℕ) → k < length r.reactions → length (slice_index_or r.reactions k []) ≡ length r.lens

-- likewise the rows of one actuator
pub record TakesRow (old new others : Reactions) (a : ℕ) : Type 0 where
  pub lens : new.lens ≡ old.lens
  pub many : length new.reactions ≡ length old.reactions
  pub wide : AreWide new
  pub here : (k : ℕ) → row_at new.reactions k a ≡ row_at others.reactions k a
  pub elsewhere : (k b : ℕ) → (b ≡ a → ⊥) → row_at new.reactions k b ≡ row_at old.reactions k b

-- likewise the rows of a group's actuators
pub record TakesRows (j : JobData) (old new others : Reactions) (callers : List ℕ) (groups group : ℕ) : Type 0 where
  pub lens : new.lens ≡ old.lens
  pub many : length new.reactions ≡ length old.reactions
  pub wide : AreWide new
  pub here : (v a k : ℕ) (x : Vertex) → slice_get j.graph.vertices v ≡ Some x → x.kind ≡ Actuator a →
      slice_index_or callers v 0 % groups ≡ group → row_at new.reactions k a ≡ row_at others.reactions k a
  pub elsewhere : (v a k : ℕ) (x : Vertex) → slice_get j.graph.vertices v ≡ Some x → x.kind ≡ Actuator a →
      (slice_index_or callers v 0 % groups ≡ group → ⊥) → row_at new.reactions k a ≡ row_at old.reactions k a

-- Remains are of a job: they have a count for each sequence, a cell for each delay, rows for each reaction, and the
-- sequence that calls each operation.
pub record AreOfJob (j : JobData) (r : Remains) : Type 0 where
  pub counts_there : length r.counts.items ≡ length j.program.seqs
  pub cells_there : length r.cells.items ≡ length j.opening
  pub rows_there : length r.rows.reactions ≡ reactions j
  pub wide : AreWide r.rows
  pub callers_there : length r.callers.items ≡ length j.graph.vertices
  pub callers : (v : ℕ) → v < length j.graph.vertices → slice_index_or r.callers.items v 0 ≡ caller j v

-- the driver is one of the job whose remains these are, and rows are laid out for all actuators
pub record FitsTo (d : DriverParts) (r : Remains) : Type 0 where
  pub of_job : AreOfJob d.job.now r
  pub laid : (v : ℕ) → HasRow d.job.now r.rows.lens v

-- what the driver has of its own is taken over
pub record Gathers (d : DriverParts) (old new : Remains) : Type 0 where
  pub counts : TakesCounts old.counts.items new.counts.items d.counts.items d.groups d.group
  pub cells : TakesCells old.cells.items new.cells.items d.own.kept.cells old.cell_owners.items d.groups d.group
  pub rows : TakesRows d.job.now old.rows new.rows (record { lens = d.own.kept.lens; reactions = d.own.kept.rows })
      old.callers.items d.groups d.group
  pub words : new.words ≡ old.words
  pub callers : new.callers ≡ old.callers
  pub owners : new.cell_owners ≡ old.cell_owners

-- All that belongs to the groups from m on is gathered: their counts, and the cells and rows after as many micro-steps.
pub record IsGathered (j : JobData) (groups m : ℕ) (counts : List ℕ) (r : Remains) : Type 0 where
  pub of_job : AreOfJob j r
  pub words_there : length r.words.items + 1 ≡ table_len j
  pub lens : r.rows.lens ≡ actuator_lens j.graph j.graph.vertices
  pub cell_owners : r.cell_owners.items ≡ owners r.callers.items j.graph.vertices
  pub made : (s : ℕ) → s < length j.program.seqs → m ≤ s % groups →
      slice_index_or r.counts.items s 0 ≡ slice_index_or counts s 0
  pub cells : (v d : ℕ) (x : Vertex) → slice_get j.graph.vertices v ≡ Some x → delay_of j.graph v x ≡ Some d →
      m ≤ caller j v % groups → vector_at r.cells.items d ≡
      vector_at (own_after j (caller j v) (slice_index_or counts (caller j v) 0)).cells d
  pub rows : (v a k : ℕ) (x : Vertex) → slice_get j.graph.vertices v ≡ Some x → x.kind ≡ Actuator a →
      m ≤ caller j v % groups → row_at r.rows.reactions k a ≡
      row_at (own_after j (caller j v) (slice_index_or counts (caller j v) 0)).rows k a

-- the view drives the sequences of the groups from m on, with these counts, and no other
pub record HoldsFrom (j : JobData) (groups m : ℕ) (v : View) (counts : List ℕ) : Type 0 where
  pub inside : (s : ℕ) → s < length j.program.seqs → m ≤ s % groups → count_by v s ≡ Some (slice_index_or counts s 0)
  pub none_else : (s n : ℕ) → count_by v s ≡ Some n → m ≤ s % groups

-- the same of a seat of this table; without a seat no group is gathered
abbrev pub SeatHolds : JobData → TableId → ℕ → ℕ → Option SeatData → List ℕ → Type 0
SeatHolds j table groups m None counts = m ≡ groups
SeatHolds j table groups m (Some s) counts = (s.table ≡ table) × HoldsFrom j groups m s.view counts

-- the second seat, which takes over what the first one drives, if there is one
abbrev pub seat_with : Option SeatData → SeatData → SeatData
seat_with None other = other
seat_with (Some s) other = with_seat s other

-- the table, the job and the groups are the same
pub record IsSameFabric (old new : FabricParts) : Type 0 where
  pub table : new.table ≡ old.table
  pub job : new.job ≡ old.job
  pub groups : new.groups ≡ old.groups
