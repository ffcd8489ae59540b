-- What a reaction of a flat graph does to its store.
use Rattle.std.specs.Prelude.{
  ◌≡◌,
  ◌≢◌,
  ℕ,
  List,
  [],
  ◌∷◌,
  map,
  drop,
  Some,
  if◌then◌else◌,
  slice_get,
  slice_index_or,
  slice_set,
}
use Rattle.syn_base.specs.Rows.{Reactions}
use Rattle.flat_graph.specs.declared.vertex.Source.{Source}
use Rattle.flat_graph.specs.declared.vertex.Kind.TheVariants.{Set}
use Rattle.flat_graph.specs.declared.vertex.Vertex.{Vertex}
use Rattle.flat_graph.specs.Graph.{Graph}
use Rattle.flat_graph.specs.Fire.{fired}
use Rattle.flat_graph.specs.Meaning.{is_get, sensed, conditions, inputs, outputs_in, next_cell}
use Rattle.sync_meaning.specs.declared.layout.Store.{Store}
use Rattle.sync_meaning.specs.Store.{Fits, lengths, given, value_at, delay_cells}
use Rattle.syn_base.specs.Vectors.{Vector, Values, vector_at}

-- The sensors' vectors of a reaction.
abbrev pub row_of : Reactions → ℕ → Values
row_of rows k = slice_index_or rows.reactions k []

-- What each operation keeps.
abbrev pub kept_in : Store → Values
kept_in s = map (λ c. c.items) s.cells.items

abbrev pub FitsStore : Graph → Store → Type 0
FitsStore g s = Fits g s.reads.items s.table.items (kept_in s)

-- Operation v gives what it makes of this cell, of what it senses and of what its sources give, and all else stays.
pub record Gives (g : Graph) (v : ℕ) (cell seen : Vector) (old new : List Values) : Type 0 where
  pub lens : map lengths new ≡ map lengths old
  pub here : (x : Vertex) → slice_get g.vertices v ≡ Some x
      → given new v ≡ fired g.bodies x cell seen (conditions (value_at old) x) (inputs (value_at old) x)
  pub others : (u : ℕ) → u ≢ v → given new u ≡ given old u

-- An operation that is no set half keeps what it kept.
abbrev pub KeepsCell : Graph → ℕ → Vector → Vector → Type 0
KeepsCell g v old new = (x : Vertex) → slice_get g.vertices v ≡ Some x → (x.kind ≡ Set → ⊥) → new ≡ old

-- Operation v gives what it makes of what its sources give, and all else stays; a set half, which gives nothing, keeps
-- nothing yet.
pub record HasRun (g : Graph) (row : Values) (v : ℕ) (old new : Store) : Type 0 where
  pub fits : FitsStore g new
  pub cells : kept_in new ≡ kept_in old
  pub here : (x : Vertex) → slice_get g.vertices v ≡ Some x
      → given new.table.items v ≡
      fired g.bodies x (vector_at (kept_in old) v) (sensed x.kind row)
      (conditions (value_at old.table.items) x) (inputs (value_at old.table.items) x)
  pub others : (u : ℕ) → u ≢ v → given new.table.items u ≡ given old.table.items u

-- Each operation gives what it gives in this reaction, and the delays keep what they kept.
pub record HasFired (g : Graph) (row : Values) (old new : Store) : Type 0 where
  pub fits : FitsStore g new
  pub cells : kept_in new ≡ kept_in old
  pub gives : (u : ℕ) → given new.table.items u ≡ outputs_in g (delay_cells g.vertices (kept_in old)) row u

-- What an operation keeps after a reaction.
abbrev pub next_kept : List Vertex → (Source → Vector) → Vertex → Vector → Vector
next_kept vertices look x cell = if is_get x.kind then next_cell vertices look x.twin cell else cell

-- What each of these operations keeps after a reaction.
abbrev pub all_kept : List Vertex → (Source → Vector) → List Vertex → Values → Values
all_kept vertices look [] cells = []
all_kept vertices look (x ∷ xs) cells =
    next_kept vertices look x (vector_at cells 0) ∷ all_kept vertices look xs (drop 1 cells)

-- Operation v keeps what it keeps after a reaction, and all else stays.
abbrev pub KeepsAt : List Vertex → (Source → Vector) → ℕ → Values → Values → Type 0
KeepsAt vertices look v old new =
    (x : Vertex) → slice_get vertices v ≡ Some x → new ≡ slice_set old v (next_kept vertices look x (vector_at old v))

-- The delays keep what their set halves read, and all else stays.
pub record HasKept (g : Graph) (old new : Store) : Type 0 where
  pub fits : FitsStore g new
  pub table : new.table.items ≡ old.table.items
  pub cells : kept_in new ≡ all_kept g.vertices (value_at old.table.items) g.vertices (kept_in old)
