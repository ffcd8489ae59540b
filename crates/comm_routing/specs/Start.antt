-- The tables before the first decision: what the outputs of operations are numbered by, and which sources each
-- operation reads.
use Rattle.std.specs.Prelude.{
  ◌≡◌,
  ℕ,
  ◌+◌,
  ◌*◌,
  ◌<◌,
  ◌≤◌,
  ◌==◌,
  List,
  [],
  ◌∷◌,
  ◌++◌,
  length,
  All,
  Some,
  None,
  slice_index_or,
  if◌then◌else◌,
}
use Rattle.std.specs.List.{list_any}
use Rattle.schedule.specs.declared.Source.{Source}
use Rattle.schedule.specs.declared.Vertex.{Vertex}
use Rattle.schedule.specs.Graph.{same_source}
use Rattle.schedule.specs.Acts.{sources_of}
use Rattle.comm_routing.specs.Board.{Board}
use Rattle.comm_routing.specs.Walk.{distinct}

-- the number of each operation's first output, of which the first one has this number
abbrev pub firsts_from : ℕ → List Vertex → List ℕ
firsts_from first [] = []
firsts_from first (x ∷ xs) = first ∷ firsts_from (first + length x.outs) xs

-- the lengths of all outputs, operation by operation
abbrev pub all_lens : List Vertex → List ℕ
all_lens [] = []
all_lens (x ∷ xs) = x.outs ++ all_lens xs

-- no operation is placed, and no value is held
pub record IsStart (vertices : List Vertex) (count : ℕ) (b : Board) : Type 0 where
  pub operators : b.operators ≡ count
  pub first : b.first ≡ firsts_from 0 vertices
  pub lens : b.lens ≡ all_lens vertices
  pub held : length b.held ≡ length (all_lens vertices) * count
  pub none_held : (i : ℕ) → slice_index_or b.held i None ≡ None
  pub places : length b.places ≡ length vertices
  pub none_placed : (v : ℕ) → slice_index_or b.places v None ≡ None
  pub ended : length b.ended ≡ length vertices
  pub no_ended : (v : ℕ) → slice_index_or b.ended v 0 ≡ 0
  pub ends : length b.ends ≡ 16
  pub no_ends : (m : ℕ) → slice_index_or b.ends m 0 ≡ 0
  pub busy : length b.busy ≡ 16
  pub no_busy : (o : ℕ) → slice_index_or b.busy o 0 ≡ 0

-- one of this many operations, and one of 64 outputs
pub record IsThere (operations : ℕ) (x : Source) : Type 0 where
  pub vertex : x.vertex < operations
  pub port : x.port < 64

-- the place of an output in the table of marks
abbrev pub place_of : Source → ℕ
place_of x = x.vertex * 64 + x.port

-- how many marks are this one
abbrev pub tally : ℕ → List ℕ → ℕ
tally mark [] = 0
tally mark (m ∷ marks) = if m == mark then 1 + tally mark marks else tally mark marks

-- The sources of these so far have this mark, and no mark is greater.
pub record IsMarked (operations mark : ℕ) (marks : List ℕ) (out : List Source) : Type 0 where
  pub size : length marks ≡ operations * 64
  pub low : (i : ℕ) → slice_index_or marks i 0 ≤ mark
  pub told : (x : Source) → IsThere operations x
      → (slice_index_or marks (place_of x) 0 == mark) ≡ list_any (same_source x) out
  pub count : tally mark marks ≡ length out

-- one more source, unless it is there
abbrev pub with_source : List Source → Source → List Source
with_source out x = if list_any (same_source x) out then out else (out ++ x ∷ [])

-- the distinct sources of an operation
abbrev pub reads_of : Vertex → List Source
reads_of x = distinct (sources_of (Some x))

abbrev pub AreThere : ℕ → Vertex → Type 0
AreThere operations x = All (IsThere operations) (sources_of (Some x))
