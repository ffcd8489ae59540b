-- What it means that an operation depends on itself.
use Rattle.std.specs.Prelude.{◌≡◌, ℕ, ◌<◌, ◌↔◌, IsTrue, List, length, Some, Contains, slice_get}
use Rattle.flat_graph.specs.declared.vertex.Vertex.{Vertex}
use Rattle.flat_graph.specs.Order.{depends_on, is_acyclic}

-- Operation v depends on operation u.
pub record DependsOn (vertices : List Vertex) (v u : ℕ) : Type 0 where
  pub at : Vertex
  pub is : slice_get vertices v ≡ Some at
  pub among : Contains (depends_on at) u

-- Operation v depends on the other, at once or through others.
pub data LeadsTo (vertices : List Vertex) : ℕ → ℕ → Type 0 where
  at_once : {v u : ℕ} → DependsOn vertices v u → LeadsTo vertices v u
  through : {v u w : ℕ} → DependsOn vertices v u → LeadsTo vertices u w → LeadsTo vertices v w

-- No operation depends on itself, at once or through others.
abbrev pub NoneLeadsToItself : List Vertex → Type 0
NoneLeadsToItself vertices = (v : ℕ) → LeadsTo vertices v v → ⊥

-- Each operation that another depends on is there.
abbrev pub AllAreThere : List Vertex → Type 0
AllAreThere vertices = (v u : ℕ) → DependsOn vertices v u → u < length vertices

-- As many rounds as there are operations do all of them exactly where none depends on itself.
abbrev pub RoundsFindCycles : Type 0
RoundsFindCycles = (vertices : List Vertex) → AllAreThere vertices →
    (IsTrue (is_acyclic vertices) ↔ NoneLeadsToItself vertices)
