-- Which nodes of a level ask for which, along the edges.
use Rattle.std.specs.Prelude.{◌≡◌, ℕ, ◌<◌, List, [], ◌∷◌, length, ◌⊎◌, Some, slice_get}
use Rattle.level_meaning.specs.declared.source.Source.{Source}
use Rattle.level_meaning.specs.declared.source.Source.TheVariants.{Own, Of}
use Rattle.level_meaning.specs.declared.source.Guard.{Guard}
use Rattle.level_meaning.specs.Level.{Node}

-- A source is an output of node q.
abbrev pub IsOf : ℕ → Source → Type 0
IsOf q (Own k) = ⊥
IsOf q (Of r p) = r ≡ q

-- One of these sources is an output of node q.
abbrev pub IsAmong : ℕ → List Source → Type 0
IsAmong q [] = ⊥
IsAmong q (s ∷ ss) = IsOf q s ⊎ IsAmong q ss

-- One of the guards' sources is an output of node q.
abbrev pub IsGuarding : ℕ → List Guard → Type 0
IsGuarding q [] = ⊥
IsGuarding q (g ∷ gs) = IsOf q g.source ⊎ IsGuarding q gs

-- Node r asks for node q: one of the sources of its guards, or of what its outputs ask for, is an output of q.
pub record Asks (cs : List Node) (r q : ℕ) : Type 0 where
  pub at : Node
  pub is : slice_get cs r ≡ Some at
  pub by : IsGuarding q at.guards ⊎ IsAmong q at.asked

-- Node r asks for the other, along one edge or several.
pub data Reaches (cs : List Node) : ℕ → ℕ → Type 0 where
  asks : {r q : ℕ} → Asks cs r q → Reaches cs r q
  goes : {r q s : ℕ} → Asks cs r q → Reaches cs q s → Reaches cs r s

-- No node asks for itself, however far.
abbrev pub ReachesNoneItself : List Node → Type 0
ReachesNoneItself cs = (r : ℕ) → Reaches cs r r → ⊥

-- Each node that is asked for is there.
abbrev pub AllInRange : List Node → Type 0
AllInRange cs = (r q : ℕ) → Asks cs r q → q < length cs
