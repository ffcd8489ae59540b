-- What the operations of a flat graph read, give and keep, as it stands in a store.
use Rattle.std.specs.Prelude.{
  ◌≡◌,
  ℕ,
  ◌++◌,
  ℤ,
  List,
  [],
  ◌∷◌,
  map,
  length,
  take,
  drop,
  true,
  replicate,
  if◌then◌else◌,
  Some,
  slice_get,
  slice_index_or,
}
use Rattle.flat_graph.specs.declared.vertex.Source.{Source}
use Rattle.flat_graph.specs.declared.vertex.Kind.{Kind}
use Rattle.flat_graph.specs.declared.vertex.Kind.TheVariants.{Get, Set}
use Rattle.flat_graph.specs.declared.vertex.Vertex.{Vertex}
use Rattle.flat_graph.specs.Graph.{Graph, lens_of}
use Rattle.flat_graph.specs.Fire.{guards_hold}
use Rattle.flat_graph.specs.Meaning.{is_get, conditions, inputs}
use Rattle.syn_base.specs.Vectors.{Vector, Values, vector_at}

-- The outputs of operation v in a table.
abbrev pub given : List Values → ℕ → Values
given table v = slice_index_or table v []

-- The value of a source in a table of what the operations give.
abbrev pub value_at : List Values → Source → Vector
value_at table s = vector_at (given table s.vertex) s.port

abbrev pub lengths : Values → List ℕ
lengths vs = map length vs

-- The lengths of what an operation reads: of its inputs, and 1 for each guard.
abbrev pub lens_read : List Vertex → Vertex → List ℕ
lens_read vertices x = lens_of vertices x.ins ++ replicate (length x.guards) 1

-- What an operation keeps at first: a get half keeps the cell of its delay, and any other operation nothing.
abbrev pub first_kept : Kind → Vector
first_kept (Get z) = z
first_kept _ = []

-- A place for what each operation keeps.
abbrev pub CellsFit : Graph → Values → Type 0
CellsFit g cells = lengths cells ≡ map (λ x. length (first_kept x.kind)) g.vertices

-- A place for each operation, of the right lengths, in what is read, given and kept.
pub record Fits (g : Graph) (reads table : List Values) (cells : Values) : Type 0 where
  pub reads_fit : map lengths reads ≡ map (lens_read g.vertices) g.vertices
  pub outs_fit : map lengths table ≡ map (λ x. x.outs) g.vertices
  pub cells_fit : CellsFit g cells

-- What was read: the values of the guards' sources, and those of the inputs where the guards hold.
pub record HasRead (look : Source → Vector) (x : Vertex) (read : Values) : Type 0 where
  pub conditions_are : drop (length x.ins) read ≡ conditions look x
  pub inputs_are : guards_hold x.guards (conditions look x) ≡ true → take (length x.ins) read ≡ inputs look x

-- The cells of the delays, where each operation has one.
abbrev pub delay_cells : List Vertex → Values → Values
delay_cells [] cells = []
delay_cells (x ∷ xs) cells =
    if is_get x.kind then vector_at cells 0 ∷ delay_cells xs (drop 1 cells) else delay_cells xs (drop 1 cells)

-- Operation t is a set half with one input, whose value has this length.
pub record HasSetHalf (vertices : List Vertex) (table : List Values) (len t : ℕ) : Type 0 where
  pub at : Vertex
  pub is : slice_get vertices t ≡ Some at
  pub kind : at.kind ≡ Set
  pub ins : lengths (inputs (value_at table) at) ≡ len ∷ []
