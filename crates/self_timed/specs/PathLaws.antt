-- What leads to what, in terms of paths.
use Rattle.std.specs.Prelude.{◌≡◌, ◌↔◌, ℕ, zero, suc, IsTrue, List, Some, slice_get}
use Rattle.sequence_build_laws.specs.FlatOrder.{is_acyclic}
use Rattle.sequence_build_laws.specs.declared.Vertex.{Vertex}
use Rattle.self_timed.specs.Latency.{leads_to, reads}

module _ (vertices : List Vertex) where
  -- operation w reads an output of operation u
  abbrev pub Reads : ℕ → ℕ → Type 0
  Reads w u = (k : ℕ) × (slice_get (reads vertices w) k ≡ Some u)

  -- so many operations, one after the other, each of which reads an output of the one before, from v to w
  abbrev pub IsPath : ℕ → ℕ → ℕ → Type 0
  IsPath zero v w = v ≡ w
  IsPath (suc n) v w = (u : ℕ) × Reads w u × IsPath n v u

-- an operation leads to another one exactly where there is a path, of whatever length
abbrev pub LeadsAlongPaths : Type 0
LeadsAlongPaths = (vertices : List Vertex) → IsTrue (is_acyclic vertices) → (v w : ℕ)
    → IsTrue (leads_to vertices v w) ↔ ((n : ℕ) × IsPath vertices (suc n) v w)
