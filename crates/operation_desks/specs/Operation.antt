-- One operation of the flat graph, as the core makes it: from what was loaded to what is stored, kept and taken.
use Rattle.std.specs.Prelude.{
  ◌≡◌,
  ℕ,
  ◌+◌,
  ◌<◌,
  List,
  [],
  ◌∷◌,
  ◌++◌,
  map,
  take,
  drop,
  replicate,
  length,
  Option,
  Some,
  None,
  slice_index_or,
  slice_set,
  ℤ,
}
use Rattle.std.specs.List.{range_with_len}
use Rattle.syn_base.specs.Vectors.{Vector, Values, vector_at}
use Rattle.executive_program.specs.Level.{element_at}
use Rattle.executive_program.specs.declared.Vertex.{Vertex}
use Rattle.executive_program.specs.declared.Kind.{Kind}
use Rattle.executive_program.specs.declared.Kind.TheVariants.{Actuator, Get, Set}
use Rattle.executive_program.specs.Graph.{Graph, lens_of}
use Rattle.executive_program.specs.Fire.{fired, kept}
use Rattle.executive_program.specs.Meaning.{sensed, delay_number}

-- Of an operation's sources its guards' come first, and then its inputs.
abbrev pub conditions_in : Vertex → Values → Values
conditions_in x vs = take (length x.guards) vs

-- These are the values of the inputs of operation x, which come after those of its guards' sources.
abbrev pub inputs_in : Vertex → Values → Values
inputs_in x vs = drop (length x.guards) vs

-- the vector of length n that lies in a row from place `at` on; what is not there is 0
abbrev pub vector_in : List ℤ → ℕ → ℕ → Vector
vector_in row at n = map (λ j. element_at row (at + j)) (range_with_len 0 n)

-- the vectors of these lengths, one after the other
abbrev pub vectors_from : List ℤ → ℕ → List ℕ → Values
vectors_from row at [] = []
vectors_from row at (n ∷ ns) = vector_in row at n ∷ vectors_from row (at + n) ns

-- the number of the delay of which operation v is a half
abbrev pub delay_by : List Vertex → ℕ → Kind → Option ℕ → Option ℕ
delay_by vs v (Get z) twin = Some (delay_number vs v)
delay_by vs v Set (Some u) = Some (delay_number vs u)
delay_by vs v _ twin = None

-- This is the cell of the given delay; it is the empty vector if no delay is given.
abbrev pub cell_at : Values → Option ℕ → Vector
cell_at cells None = []
cell_at cells (Some d) = vector_at cells d

-- the cell is there and has this length; without a delay the length is 0
abbrev pub HasCell : Values → Option ℕ → ℕ → Type 0
HasCell cells None n = n ≡ 0
HasCell cells (Some d) n = (d < length cells) × (length (vector_at cells d) ≡ n)

-- The cell of the given delay becomes z; if no delay is given, the cells are as before.
abbrev pub with_cell : Values → Option ℕ → Vector → Values
with_cell cells None z = cells
with_cell cells (Some d) z = slice_set cells d z

-- the rows afterwards: an actuator takes its input as its vector of reaction k
abbrev pub rows_by : Kind → ℕ → Vector → List Values → List Values
rows_by (Actuator i) k z rows = slice_set rows k (slice_set (slice_index_or rows k []) i z)
rows_by _ k z rows = rows

module _ (g : Graph) where
  -- the lengths of what operation x reads; a guard's source has one element
  abbrev pub lens_in : Vertex → List ℕ
  lens_in x = replicate (length x.guards) 1 ++ lens_of g.vertices x.ins

  -- Operation v, which is x, is a half of the delay of this number; it is none if the
  -- operation is no half of a delay.
  abbrev pub delay_of : ℕ → Vertex → Option ℕ
  delay_of v x = delay_by g.vertices v x.kind x.twin

  -- the outputs of operation v from the values of its sources, the
  -- delays' cells and the sensors' vectors of the reaction
  abbrev pub outputs_of : ℕ → Vertex → Values → Values → Values → Values
  outputs_of v x vs cells row = fired g.bodies x (cell_at cells (delay_of v x)) (sensed x.kind row)
      (conditions_in x vs) (inputs_in x vs)

  -- the cells afterwards: a set half that is active stores its input
  abbrev pub cells_left : ℕ → Vertex → Values → Values → Values
  cells_left v x vs cells = with_cell cells (delay_of v x)
      (kept x (cell_at cells (delay_of v x)) (conditions_in x vs) (inputs_in x vs))

  -- These are the rows after operation x was computed in reaction k on the values vs of its
  -- sources: an actuator takes its input, and any other operation changes nothing.
  abbrev pub rows_left : Vertex → ℕ → Values → List Values → List Values
  rows_left x k vs rows = rows_by x.kind k (vector_at (inputs_in x vs) 0) rows

-- The vectors of this many ports are read from a row, from `at` on;
-- the other ports are as they were, and the lengths too.
pub record ReadsPorts (row : List ℤ) (at first count : ℕ) (old new : Values) : Type 0 where
  pub read : take count (drop first new) ≡ vectors_from row at (take count (drop first (map length old)))
  pub before : take first new ≡ take first old
  pub after : drop (first + count) new ≡ drop (first + count) old
  pub lens : map length new ≡ map length old
