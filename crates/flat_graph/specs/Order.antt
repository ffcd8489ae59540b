-- No operation depends on itself.
use Rattle.std.specs.Prelude.{ℕ, zero, suc, Bool, false, List, [], ◌∷◌, ◌++◌, map, length, Option, Some, slice_get}
use Rattle.std.specs.List.{list_all, range_with_len}
use Rattle.flat_graph.specs.declared.vertex.Kind.{Kind}
use Rattle.flat_graph.specs.declared.vertex.Kind.TheVariants.{Set}
use Rattle.flat_graph.specs.declared.vertex.Vertex.{Vertex}
use Rattle.flat_graph.specs.Graph.{with_vertex}

-- A set half depends on its get half.
abbrev pub get_half : Kind → Option ℕ → List ℕ
get_half Set (Some u) = u ∷ []
get_half _ _ = []

-- The operations that an operation depends on: those of its sources, its guards' first.
abbrev pub depends_on : Vertex → List ℕ
depends_on x = map (λ g. g.source.vertex) x.guards ++ map (λ s. s.vertex) x.ins ++ get_half x.kind x.twin

-- Operation v is done after this many rounds, in each of which an operation is done if all that it depends on was
-- done before.
abbrev pub is_done : List Vertex → ℕ → ℕ → Bool
is_done vertices zero v = false
is_done vertices (suc rounds) v =
    with_vertex (slice_get vertices v) false (λ x. list_all (is_done vertices rounds) (depends_on x))

-- No operation depends on itself: as many rounds as there are operations do all of them.
abbrev pub is_acyclic : List Vertex → Bool
is_acyclic vertices = list_all (is_done vertices (length vertices)) (range_with_len 0 (length vertices))
