-- Where the values of a flat graph stand in one store of words: the outputs of each operation one after
-- another, those of the first operation first.
use Rattle.std.specs.Prelude.{◌≡◌, ℕ, ◌+◌, ◌<◌, ℤ, List, [], ◌∷◌, length, take, drop, sum, slice_get, slice_index_or}
use Rattle.syn_base.specs.Vectors.{Vector, Values, vector_at}
use Rattle.syn_base.specs.Rows.{cut}
use Rattle.flat_graph.specs.declared.vertex.Source.{Source}
use Rattle.flat_graph.specs.declared.vertex.Vertex.{Vertex}
use Rattle.flat_graph.specs.Graph.{with_vertex}
use Rattle.expression_code.specs.declared.step.Span.{Span}
use Rattle.graph_code.specs.declared.places.Places.{Places}

-- How many words the outputs of these operations have.
abbrev pub width_of : List Vertex → ℕ
width_of [] = 0
width_of (x ∷ xs) = sum x.outs + width_of xs

-- Where the outputs of operation v begin.
abbrev pub start_of : List Vertex → ℕ → ℕ
start_of vertices v = width_of (take v vertices)

-- The span of output p of an operation whose outputs begin at a place: empty if there is no such output.
abbrev pub output_span : ℕ → List ℕ → ℕ → Span
output_span start outs p = record { start = start + sum (take p outs); len = slice_index_or outs p 0 }

-- The span of a source, empty if there is none.
abbrev pub span_of : List Vertex → Source → Span
span_of vertices s =
    with_vertex (slice_get vertices s.vertex) (record { start = 0; len = 0 })
    (λ x. output_span (start_of vertices s.vertex) x.outs s.port)

-- What stands in a store of these operations: the outputs of each, in order.
abbrev pub table_of : List Vertex → List ℤ → List Values
table_of [] store = []
table_of (x ∷ xs) store = cut x.outs store ∷ table_of xs (drop (sum x.outs) store)

-- The outputs of operation v in a store; none if there is no such operation.
abbrev pub outputs_at : List Vertex → List ℤ → ℕ → Values
outputs_at vertices store v = slice_index_or (table_of vertices store) v []

-- The value of a source in a store; empty if there is none.
abbrev pub value_at : List Vertex → List ℤ → Source → Vector
value_at vertices store s = vector_at (outputs_at vertices store s.vertex) s.port

-- Where the outputs of each operation begin, if those of the first begin at a place.
abbrev pub starts_from : ℕ → List Vertex → List ℕ
starts_from at [] = []
starts_from at (x ∷ xs) = at ∷ starts_from (at + sum x.outs) xs

-- The places at which the outputs of these operations begin, and the width of all of them.
pub record ArePlaces (vertices : List Vertex) (p : Places) : Type 0 where
  pub starts : p.starts.items ≡ starts_from 0 vertices
  pub width : p.width ≡ width_of vertices
