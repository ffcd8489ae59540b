-- A drawing shows exactly what is in its flat graph.
use Rattle.std.specs.Prelude.{◌≡◌, ◌↔◌, ℕ, List, Some, slice_get}
use Rattle.schedule.specs.declared.Kind.TheVariants.{Set}
use Rattle.schedule.specs.declared.Vertex.{Vertex}
use Rattle.graph_drawing.specs.Statements.{
  Statement,
  operation,
  input,
  condition,
  keeps,
  statements_from,
}

-- some operation of this number passes
abbrev pub At : List Vertex → ℕ → (Vertex → Type 0) → Type 0
At vertices v P = (x : Vertex) × (slice_get vertices v ≡ Some x) × P x

-- what the statement says is so
abbrev pub Holds : List Vertex → Statement → Type 0
Holds vertices (operation v x) = slice_get vertices v ≡ Some x
Holds vertices (input v i s) = At vertices v (λ x. slice_get x.ins i ≡ Some s)
Holds vertices (condition v i g) = At vertices v (λ x. slice_get x.guards i ≡ Some g)
Holds vertices (keeps v u) = At vertices v (λ x. (x.kind ≡ Set) × (x.twin ≡ Some u))

-- a drawing makes the statement at some place
abbrev pub IsMade : List Vertex → Statement → Type 0
IsMade vertices st = (n : ℕ) × (slice_get (statements_from 0 vertices) n ≡ Some st)

-- operations, inputs, guards and delays are drawn exactly where they are there, each once
abbrev pub DrawsExactly : Type 0
DrawsExactly = (vertices : List Vertex) (st : Statement) → IsMade vertices st ↔ Holds vertices st

-- A drawing makes each statement at one place at most.
abbrev pub DrawsOnce : Type 0
DrawsOnce = (vertices : List Vertex) (st : Statement) (m n : ℕ)
    → slice_get (statements_from 0 vertices) m ≡ Some st →
    slice_get (statements_from 0 vertices) n ≡ Some st → m ≡ n
