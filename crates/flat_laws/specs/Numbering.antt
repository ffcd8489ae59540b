-- The bodies of a flat graph that stand in the order of its functions.
use Rattle.std.specs.Prelude.{◌≡◌, ℕ, ◌+◌, List, [], ◌∷◌, length}
use Rattle.flat_graph.specs.declared.vertex.Kind.{Kind}
use Rattle.flat_graph.specs.declared.vertex.Kind.TheVariants.{Function}
use Rattle.flat_graph.specs.declared.vertex.Vertex.{Vertex}
use Rattle.flat_graph.specs.Graph.{Graph}

-- A function has this body.
abbrev pub IsNumbered : ℕ → Kind → Type 0
IsNumbered body (Function number) = number ≡ body
IsNumbered body _ = Unit {0}

-- How many bodies an operation of this kind has: 1 if it is a function, else 0.
abbrev pub body_count : Kind → ℕ
body_count (Function number) = 1
body_count _ = 0

-- The functions have the bodies from `body` on, up to but without body `count`.
abbrev pub AreNumbered : ℕ → ℕ → List Vertex → Type 0
AreNumbered body count [] = body ≡ count
AreNumbered body count (x ∷ xs) = IsNumbered body x.kind × AreNumbered (body + body_count x.kind) count xs

-- The functions of the graph, in order, have the bodies 0, 1 and so on, and there are
-- no other bodies.
abbrev pub HasBodiesInOrder : Graph → Type 0
HasBodiesInOrder g = AreNumbered 0 (length g.bodies) g.vertices
