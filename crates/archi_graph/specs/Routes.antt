-- Routes over media.
use Rattle.std.specs.Prelude.{◌≡◌, ℕ, ◌<◌, ◌↔◌, IsTrue, List, [], ◌∷◌, All, Contains, IsSomeAnd, slice_get}
use Rattle.archi_graph.specs.declared.medium.Medium.{Medium}
use Rattle.archi_graph.specs.declared.medium.Hop.{Hop}
use Rattle.archi_graph.specs.Archi.{reached_within}

-- both operators stand at the hop's medium
abbrev pub IsHop : List Medium → ℕ → Hop → Type 0
IsHop media from h = IsSomeAnd (slice_get media h.medium) (λ m. Contains m.stands from × Contains m.stands h.to)

-- the hops lead from one operator to the other
abbrev pub IsRoute : List Medium → ℕ → List Hop → ℕ → Type 0
IsRoute media from [] to = from ≡ to
IsRoute media from (h ∷ hops) to = IsHop media from h × IsRoute media h.to hops to

-- Some route leads from the first operator to the second. From an operator to itself one
-- without a hop does.
abbrev pub IsReachable : List Medium → ℕ → ℕ → Type 0
IsReachable media from to = (hops : List Hop) × IsRoute media from hops to

-- at each medium stand operators of these alone
abbrev pub AreOperators : ℕ → List Medium → Type 0
AreOperators operators media = All (λ m. All (λ o. o < operators) m.stands) media

-- an operator is within as many hops as there are operators exactly where some route leads to it
abbrev pub RoutesAreFound : Type 0
RoutesAreFound = (operators : ℕ) (media : List Medium) → AreOperators operators media → (o : ℕ) → o < operators
    → (IsTrue (reached_within media operators o) ↔ IsReachable media 0 o)
