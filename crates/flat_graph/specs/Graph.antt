-- A flat graph as plain data.
use Rattle.std.specs.Prelude.{ℕ, List, map, Option, None, Some, slice_get, slice_index_or, refl, [], Bool, nat_eq, ◌&&◌}
use Rattle.std.specs.Coded.{Coded, code_by, coded×, coded_list}
use Rattle.body_lang.specs.Expr.{Expr}
use Rattle.flat_graph.specs.declared.vertex.Source.{Source}
use Rattle.flat_graph.specs.declared.vertex.Vertex.{Vertex}

-- The operations, and the bodies of functions: one expression for each output.
pub record Graph : Type 0 where
  pub vertices : List Vertex
  pub bodies : List (List Expr)

-- What f gives for the operation, or the value a if there is none.
abbrev pub with_vertex : {A : Type 0} → Option Vertex → A → (Vertex → A) → A
with_vertex None a f = a
with_vertex (Some x) a f = f x

-- The length of a source, 0 where there is none.
abbrev pub len_of : List Vertex → Source → ℕ
len_of vertices s = with_vertex (slice_get vertices s.vertex) 0 (λ x. slice_index_or x.outs s.port 0)

-- The lengths of the sources, in order; 0 for one that is not there.
abbrev pub lens_of : List Vertex → List Source → List ℕ
lens_of vertices sources = map (len_of vertices) sources

-- A graph is stored as the pair of its parts.
abbrev pub graph_code : Coded Vertex → Coded Expr → Coded Graph
graph_code vertex expr =
    code_by (List Vertex × List (List Expr)) (coded× (coded_list vertex) (coded_list (coded_list expr)))
    (λ g. (g.vertices, g.bodies))
    (λ p. record { vertices = p.0; bodies = p.1 })
    (λ _. refl)

-- The name of operation v, and the empty text if there is no operation v.
abbrev pub operation_name : List Vertex → ℕ → List ℕ
operation_name vertices v = with_vertex (slice_get vertices v) [] (λ x. x.name)

-- Both are the same output of the same operation.
abbrev pub same_source : Source → Source → Bool
same_source x y = nat_eq x.vertex y.vertex && nat_eq x.port y.port
