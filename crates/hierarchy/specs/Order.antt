-- An order in which the vertices of a level can run.
use Rattle.std.specs.Prelude.{
  ◌≡◌,
  ℕ,
  ◌<◌,
  Bool,
  true,
  false,
  ◌==◌,
  ◌||◌,
  List,
  [],
  ◌∷◌,
  map,
  length,
  take,
  slice_get,
  slice_index_or,
}
use Rattle.algo_tree.specs.Level.{Node, with_node}
use Rattle.algo_tree.specs.Order.{is_ready}
use Rattle.algo_tree.specs.Meaning.{node}
use Rattle.algo_tree.specs.View.{view}
use Rattle.algo_tree.specs.declared.vertex.Vertex.{Vertex as Declared}

-- The level of several declared vertices.
abbrev pub nodes_of : List Declared → List Node
nodes_of us = map node (map view us)

-- Whether node r is done, by flags.
abbrev pub is_done : List Bool → ℕ → Bool
is_done done r = slice_index_or done r false

-- The number r is in the list.
abbrev pub is_among : List ℕ → ℕ → Bool
is_among [] r = false
is_among (x ∷ xs) r = (x == r) || is_among xs r

-- Node r has not run yet, and all that it asks for has.
pub record MayRun (cs : List Node) (before : List ℕ) (r : ℕ) : Type 0 where
  pub is_new : is_among before r ≡ false
  pub ready : with_node (slice_get cs r) false (is_ready (is_among before)) ≡ true

-- An order in which each node of a level runs once, after all that it asks for.
pub record IsOrder (cs : List Node) (order : List ℕ) : Type 0 where
  pub each : (i : ℕ) → i < length order → MayRun cs (take i order) (slice_index_or order i 0)
  pub all : (r : ℕ) → r < length cs → is_among order r ≡ true
