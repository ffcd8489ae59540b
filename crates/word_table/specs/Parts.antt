-- What fabrics and drivers keep in their fields.
use Rattle.std.specs.Prelude.{
  ◌≡◌,
  ℕ,
  ◌+◌,
  ◌<◌,
  ◌≤◌,
  ◌%◌,
  ◌^◌,
  Bool,
  true,
  false,
  List,
  [],
  map,
  length,
  Some,
  slice_get,
  slice_index_or,
  slice_set,
  ℤ,
}
use Rattle.atomic_table.specs.Seated.{TableId}
use Rattle.executive_program.specs.declared.Vertex.{Vertex}
use Rattle.executive_program.specs.declared.Kind.TheVariants.{Actuator}
use Rattle.executive_program.specs.Sites.{step_at, reaction_at}
use Rattle.executive_program.specs.FlatLaws.{actuator_lens}
use Rattle.executive_program.specs.Expanded.{AreSteps}
use Rattle.executive_program.specs.Steps.{steps}
use Rattle.word_rule.specs.Job.{JobData, zero_rows}
use Rattle.word_rule.specs.Core.{full, AreReached}
use Rattle.word_rule.specs.Held.{AreReady, IsLaid}
use Rattle.word_rule.specs.Rooms.{Fits}
use Rattle.word_rule.specs.Operation.{delay_of}
use Rattle.word_rule.specs.Told.{own_after}
use Rattle.word_rule.specs.Agrees.{caller, row_at}
use Rattle.word_rule.specs.declared.next.Next.{Next}
use Rattle.word_rule.specs.declared.view.Knowledge.{Knowledge}
use Rattle.word_rule.specs.declared.view.View.{View}
use Rattle.word_rule.specs.declared.view.View.TheVariants.{Spent, Holds}
use Rattle.word_rule.specs.Given.{RunsOnWords, enables}
use Rattle.word_rule.specs.Rule.{FindsBy}
use Rattle.word_rule.specs.Steps.{looked_at}
use Rattle.word_rule.specs.Views.{count_in}
use Rattle.word_rule.specs.Words.{table_len, word_at, turn_word, elements_start, element_lens}
use Rattle.word_table.specs.declared.remains.Remains.{Remains}
use Rattle.word_table.specs.declared.driver_parts.DriverParts.{DriverParts}
use Rattle.word_table.specs.declared.fabric_parts.FabricParts.{FabricParts}
use Rattle.word_table.specs.Driver.{FabricData, Look, DriverData}
use Rattle.word_table.specs.Owners.{owners}
use Rattle.syn_base.specs.Vectors.{Values, vector_at}

module _ (j : JobData) where
  -- The registers of each sequence that is driven, and the cells and rows of
  -- the operations that it calls, are those after as many micro-steps.
  pub record HasOwn (k : Knowledge) (registers : List (List ℤ)) (cells : Values) (rows : List Values) : Type 0 where
    pub cells_there : length cells ≡ length j.opening
    pub rows_there : map length rows ≡ map length (zero_rows j)
    pub own_registers : (s n : ℕ) → count_in k.driven s ≡ Some n →
        slice_index_or registers s [] ≡ (own_after j s n).registers
    pub own_cells : (s n v d : ℕ) (x : Vertex) → count_in k.driven s ≡ Some n →
        slice_get j.graph.vertices v ≡ Some x → delay_of j.graph v x ≡ Some d → caller j v ≡ s →
        vector_at cells d ≡ vector_at (own_after j s n).cells d
    pub own_rows : (s n v a i : ℕ) (x : Vertex) → count_in k.driven s ≡ Some n →
        slice_get j.graph.vertices v ≡ Some x → x.kind ≡ Actuator a → caller j v ≡ s →
        row_at rows i a ≡ row_at (own_after j s n).rows i a

  -- some reached counts agree with those of the sequences that are driven
  pub record Reaches (k : Knowledge) : Type 0 where
    pub counts : List ℕ
    pub reached : AreReached j counts
    pub agree : (s n : ℕ) → count_in k.driven s ≡ Some n → slice_index_or counts s 0 ≡ n

-- It is a driver of the job, on this table, and its seat holds this.
pub record IsDriver (j : JobData) (table : TableId) (k : Knowledge) (d : DriverParts) : Type 0 where
  pub of_table : d.seat.table ≡ table
  pub of_job : d.job.now ≡ j
  pub holds : d.seat.view ≡ Holds k
  pub job : k.job ≡ j
  pub counts_there : length d.counts.items ≡ length j.program.seqs
  pub registers_there : length d.own.registers ≡ length j.program.seqs
  pub rooms_there : length d.own.rooms ≡ length j.program.seqs
  -- of the sequences that are driven
  pub there : (s n : ℕ) → count_in k.driven s ≡ Some n → s < length j.program.seqs
  pub within : (s n : ℕ) → count_in k.driven s ≡ Some n → n ≤ full j s
  pub counted : (s n : ℕ) → count_in k.driven s ≡ Some n → slice_index_or d.counts.items s 0 ≡ n
  -- it drives those of its group
  pub only : (s n : ℕ) → count_in k.driven s ≡ Some n → s % d.groups ≡ d.group
  pub all : (s : ℕ) → s < length j.program.seqs → s % d.groups ≡ d.group → (n : ℕ) × (count_in k.driven s ≡ Some n)
  pub reaches : Reaches j k
  pub ready : AreReady j d.own.kept
  -- what its sequences call is laid out
  pub laid : (v : ℕ) → caller j v % d.groups ≡ d.group → IsLaid j d.own.kept.lens d.own.kept.desks v
  pub in_prologue : (s l : ℕ) → Fits j.graph (slice_index_or d.own.rooms s 0) (slice_get (steps j.program s).prologue l)
  pub in_turn : (s l : ℕ) → Fits j.graph (slice_index_or d.own.rooms s 0) (slice_get (steps j.program s).turn l)
  pub own : HasOwn j k d.own.registers d.own.kept.cells d.own.kept.rows

-- what a driver keeps is that of a driver of its own job, on the table of its seat
abbrev pub AreDriverParts : DriverParts → Type 0
AreDriverParts d = (k : Knowledge) × IsDriver d.job.now d.seat.table k d

-- What is laid out for the end: room for the counts and the words, the opening cells and
-- rows of zeros, and the sequence that calls each operation and each delay.
pub record AreLaid (j : JobData) (r : Remains) : Type 0 where
  pub counts_there : length r.counts.items ≡ length j.program.seqs
  pub words_there : length r.words.items + 1 ≡ table_len j
  pub cells : r.cells.items ≡ j.opening
  pub lens : r.rows.lens ≡ actuator_lens j.graph j.graph.vertices
  pub rows : r.rows.reactions ≡ zero_rows j
  pub callers_there : length r.callers.items ≡ length j.graph.vertices
  pub callers : (v : ℕ) → v < length j.graph.vertices → slice_index_or r.callers.items v 0 ≡ caller j v
  pub cell_owners : r.cell_owners.items ≡ owners r.callers.items j.graph.vertices

-- The table is one of the job, its micro-steps are laid out, and so is what the end needs.
pub record AreFabricParts (f : FabricParts) : Type 0 where
  pub runs : RunsOnWords f.job.now
  pub key : f.table.key ≡ f.job.now
  pub some : 0 < f.groups
  pub steps_are : AreSteps f.job.now.program f.steps.items
  pub turns : f.turns ≡ turn_word f.job.now 0
  pub starts_there : length f.starts.items ≡ length (element_lens f.job.now)
  pub starts : (h : ℕ) → h < length f.starts.items → slice_index_or f.starts.items h 0 ≡ elements_start f.job.now h
  pub words_few : table_len f.job.now < 2 ^ 64
  pub laid : AreLaid f.job.now f.remains

-- how contracts see the last look, the fabric and the driver
abbrev pub last_look : View → Look
last_look Spent = record { number = 0; word = 0; found = 0 }
last_look (Holds k) = record { number = k.looks; word = k.word; found = k.found }

-- Contracts see a fabric as its table, its job and its number of groups.
abbrev pub fabric_view : FabricParts → FabricData
fabric_view f = record { table = f.table.table; job = f.job.now; groups = f.groups }

-- Contracts see a driver as its fabric and group, its counts, its last look, and what
-- its sequences have of their own.
abbrev pub driver_view : DriverParts → DriverData
driver_view d = record {
  fabric = record { table = d.seat.table; job = d.job.now; groups = d.groups };
  group = d.group;
  counts = d.counts.items;
  look = last_look d.seat.view;
  registers = d.own.registers;
  cells = d.own.kept.cells;
  rows = d.own.kept.rows;
}

-- It is a driver of the fabric.
abbrev pub IsOf : FabricParts → DriverParts → Type 0
IsOf f d = (k : Knowledge) × IsDriver f.job.now f.table.table k d

-- the job, the table and the group are the same
pub record SameDriver (old new : DriverParts) : Type 0 where
  pub table : new.seat.table ≡ old.seat.table
  pub job : new.job.now ≡ old.job.now
  pub groups : new.groups ≡ old.groups
  pub group : new.group ≡ old.group

-- Of a driver of the fabric: sequence s is driven, and m is its
-- next micro-step, in reaction r, which touches this word.
pub record CanMake (f : FabricParts) (d : DriverParts) (next : Next) : Type 0 where
  pub knowledge : Knowledge
  pub count : ℕ
  pub driver : IsDriver f.job.now f.table.table knowledge d
  pub drives : count_in knowledge.driven next.seq ≡ Some count
  pub more : count < full f.job.now next.seq
  pub next_step : step_at (steps f.job.now.program next.seq) count ≡ Some next.step
  pub in_reaction : reaction_at (steps f.job.now.program next.seq) count ≡ next.reaction
  pub word_is : next.word ≡ word_at f.job.now next.reaction next.step

-- one micro-step more of s is counted
abbrev pub CountsOneMore : DriverParts → DriverParts → ℕ → Type 0
CountsOneMore old new s = new.counts.items ≡ slice_set old.counts.items s (slice_index_or old.counts.items s 0 + 1)

-- What a look leads to: it is recorded, and where what was found enables the micro-step one more is counted.
pub record Looked (old new : DriverParts) (next : Next) (ready : Bool) : Type 0 where
  pub found : ℕ
  pub is : ready ≡ enables next.reaction next.step found
  pub finds : FindsBy old.seat.view next.word found
  pub seat : new.seat ≡ looked_at old.seat next found
  pub made : ready ≡ true → CountsOneMore old new next.seq
  pub missed : ready ≡ false → new ≡ record old { seat = looked_at old.seat next found }
