-- The operations that depend on an operation.
use Rattle.std.specs.Prelude.{
  ◌≡◌,
  ℕ,
  ◌+◌,
  ◌<◌,
  nat_eq,
  if◌then◌else◌,
  List,
  [],
  ◌∷◌,
  ◌++◌,
  length,
  Option,
  Some,
  None,
  slice_get,
}
use Rattle.std.specs.Global.{Vec}
use Rattle.schedule.specs.declared.Vertex.{Vertex}
use Rattle.schedule.specs.FlatOrder.{depends_on}

-- operation s, once for each of these that is operation u
abbrev pub repeated : ℕ → ℕ → List ℕ → List ℕ
repeated s u [] = []
repeated s u (w ∷ ws) = if nat_eq u w then s ∷ repeated s u ws else repeated s u ws

-- those of these operations that depend on operation u, where the first has this number
abbrev pub dependents_from : ℕ → ℕ → List Vertex → List ℕ
dependents_from u s [] = []
dependents_from u s (x ∷ xs) = repeated s u (depends_on x) ++ dependents_from u (s + 1) xs

-- The elements of a vector, and none if there is no vector.
abbrev pub elements : Option (Vec ℕ) → List ℕ
elements None = []
elements (Some xs) = xs.items

-- The list of operation u, by number, and the empty list if there is none for u.
abbrev pub list_at : List (Vec ℕ) → ℕ → List ℕ
list_at lists u = elements (slice_get lists u)

-- by operation those that depend on it
abbrev pub AreDependents : List Vertex → List (Vec ℕ) → Type 0
AreDependents vertices lists = (u : ℕ) → u < length vertices → list_at lists u ≡ dependents_from u 0 vertices
