-- What holds of a unit that stands for no operation.
use Rattle.std.specs.Prelude.{◌≡◌, ℕ, ◌<◌, List, [], ◌∷◌, map, Option, Some, None}
use Rattle.syn_base.specs.Vectors.{Values}
use Rattle.algo_tree.specs.Level.{State, Path}
use Rattle.algo_tree.specs.Tree.{Vertex}
use Rattle.algo_tree.specs.Meaning.{behaviour}
use Rattle.wiring_laws.specs.Wiring.{pick, wiring}

-- A vertex is wiring: whatever it keeps, each output is the value at the input to which it leads, and it keeps nothing
-- and changes nothing that is kept.
pub record IsWiring (u : Vertex) : Type 0 where
  pub gives : (row : Values) (st : State) (ins : Values) →
      (behaviour u).outputs row st ins ≡ map (pick [] ins) (wiring u)
  pub keeps : (row : Values) (st : State) (ins : Values) (q : Path) → (behaviour u).next row st ins q ≡ st q
  pub starts : (q : Path) → (behaviour u).initial q ≡ []

-- Each of these leads to one of n inputs.
abbrev pub AllLead : ℕ → List (Option ℕ) → Type 0
AllLead n [] = Unit {0}
AllLead n (None ∷ os) = ⊥
AllLead n (Some k ∷ os) = (k < n) × AllLead n os
