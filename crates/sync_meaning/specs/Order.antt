-- An order in which the operations of a flat graph can run.
use Rattle.std.specs.Prelude.{◌≡◌, ℕ, ◌<◌, Bool, true, false, ◌==◌, List, length, take, slice_get, slice_index_or}
use Rattle.std.specs.List.{list_all, list_any}
use Rattle.flat_graph.specs.declared.vertex.Vertex.{Vertex}
use Rattle.flat_graph.specs.Graph.{with_vertex}
use Rattle.flat_graph.specs.Order.{depends_on}

-- Operation v is one of these.
abbrev pub is_among : List ℕ → ℕ → Bool
is_among us v = list_any (λ u. u == v) us

-- All that operation v depends on passes a test.
abbrev pub is_ready : List Vertex → (ℕ → Bool) → ℕ → Bool
is_ready vertices done v = with_vertex (slice_get vertices v) false (λ x. list_all done (depends_on x))

-- Each entry stands after all that it depends on.
abbrev pub AllAreReady : List Vertex → List ℕ → Type 0
AllAreReady vertices order =
    (i : ℕ) → i < length order → is_ready vertices (is_among (take i order)) (slice_index_or order i 0) ≡ true

-- An order in which each operation stands, after all that it depends on.
pub record IsOrder (vertices : List Vertex) (order : List ℕ) : Type 0 where
  pub each : AllAreReady vertices order
  pub all : (v : ℕ) → v < length vertices → is_among order v ≡ true
