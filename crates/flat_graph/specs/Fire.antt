-- One operation: what it gives, and what a set half keeps.
use Rattle.std.specs.Prelude.{
  ℕ,
  Bool,
  true,
  false,
  ◌&&◌,
  ◌==◌,
  if◌then◌else◌,
  List,
  [],
  ◌∷◌,
  ◌++◌,
  map,
  length,
  take,
  drop,
  replicate,
  slice_index_or,
  slice_get,
}
use Rattle.body_lang.specs.Expr.{Expr, function_outputs}
use Rattle.level_meaning.specs.Level.{selected, all_joined, merged}
use Rattle.flat_graph.specs.declared.vertex.Guard.{Guard}
use Rattle.flat_graph.specs.declared.vertex.Kind.{Kind}
use Rattle.flat_graph.specs.declared.vertex.Kind.TheVariants.{
  Sensor,
  Actuator,
  Function,
  Constant,
  Get,
  Set,
  Explode,
  Implode,
  Merge,
}
use Rattle.flat_graph.specs.declared.vertex.Vertex.{Vertex}
use Rattle.flat_graph.specs.Graph.{Graph, with_vertex, lens_of}
use Rattle.syn_base.specs.Vectors.{Vector, Values, vector_at, zeros}
use Rattle.syn_base.specs.Rows.{cut}

-- The guards hold, where their sources have these values.
abbrev pub guards_hold : List Guard → Values → Bool
guards_hold [] vs = true
guards_hold (g ∷ gs) vs = (selected g.values (vector_at vs 0) == g.case) && guards_hold gs (drop 1 vs)

-- The outputs of an active operation, from its cell, what it senses and its inputs.
abbrev pub kind_outputs : List (List Expr) → Kind → List ℕ → Vector → Vector → Values → Values
kind_outputs bodies (Sensor i) outs cell seen ins = seen ∷ []
kind_outputs bodies (Actuator i) outs cell seen ins = []
kind_outputs bodies (Function b) outs cell seen ins = function_outputs outs (slice_index_or bodies b []) ins
kind_outputs bodies (Constant z) outs cell seen ins = z ∷ []
kind_outputs bodies (Get z) outs cell seen ins = cell ∷ []
kind_outputs bodies Set outs cell seen ins = []
kind_outputs bodies Explode outs cell seen ins = cut outs (vector_at ins 0)
kind_outputs bodies Implode outs cell seen ins = all_joined ins ∷ []
kind_outputs bodies (Merge values) outs cell seen ins = merged values ins ∷ []

-- An operation with a guard that does not hold gives zeros.
abbrev pub fired : List (List Expr) → Vertex → Vector → Vector → Values → Values → Values
fired bodies x cell seen conditions ins =
    if guards_hold x.guards conditions then kind_outputs bodies x.kind x.outs cell seen ins else map zeros x.outs

-- What the cell holds afterwards: the input, if the operation is a set half and active, and
-- otherwise what it held before.
abbrev pub stored : Kind → Bool → Vector → Vector → Vector
stored Set true cell input = input
stored Set false cell input = cell
stored _ active cell input = cell

-- The cell afterwards: a set half stores its input where it is active.
abbrev pub kept : Vertex → Vector → Values → Values → Vector
kept x cell conditions ins = stored x.kind (guards_hold x.guards conditions) cell (vector_at ins 0)

-- The length of its cell, where its inputs have these lengths: a half of a delay has one.
abbrev pub kind_cell_len : Kind → List ℕ → ℕ
kind_cell_len (Get z) lens = length z
kind_cell_len Set lens = slice_index_or lens 0 0
kind_cell_len _ lens = 0

-- The length of what it senses, where its outputs have these lengths.
abbrev pub kind_seen_len : Kind → List ℕ → ℕ
kind_seen_len (Sensor i) outs = slice_index_or outs 0 0
kind_seen_len _ outs = 0

-- Operation v of a graph, by its number.
module _ (g : Graph) (v : ℕ) where
  -- What f gives for it, or the value a if there is no such operation.
  abbrev pub of_vertex : {A : Type 0} → A → (Vertex → A) → A
  of_vertex a f = with_vertex (slice_get g.vertices v) a f

  -- The lengths of its inputs, and 1 for each guard.
  abbrev pub read_lens : List ℕ
  read_lens = of_vertex [] (λ x. lens_of g.vertices x.ins ++ replicate (length x.guards) 1)

  -- The lengths of its outputs, in order; none if there is no such operation.
  abbrev pub out_lens : List ℕ
  out_lens = of_vertex [] (λ x. x.outs)

  -- The length of its cell, if it is a half of a delay; 0 for any other.
  abbrev pub cell_len : ℕ
  cell_len = of_vertex 0 (λ x. kind_cell_len x.kind (lens_of g.vertices x.ins))

  -- The length of what it senses, if it is a sensor; 0 for any other.
  abbrev pub seen_len : ℕ
  seen_len = of_vertex 0 (λ x. kind_seen_len x.kind x.outs)

  -- Its outputs, from its cell, what it senses, and the values of its inputs and then of its guards' sources.
  abbrev pub fired_at : Vector → Vector → Values → Values
  fired_at cell seen read =
      of_vertex [] (λ x. fired g.bodies x cell seen (drop (length x.ins) read) (take (length x.ins) read))

  -- Its cell after it was fired, from its cell before and the values of its inputs and then of its
  -- guards' sources. Only a set half whose guards hold changes its cell.
  abbrev pub kept_at : Vector → Values → Vector
  kept_at cell read = of_vertex cell (λ x. kept x cell (drop (length x.ins) read) (take (length x.ins) read))
