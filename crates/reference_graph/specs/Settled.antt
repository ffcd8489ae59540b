-- Tables of depths: those that are settled one by one, and those that are followed in rounds.
use Rattle.std.specs.Prelude.{◌≡◌, ℕ, ◌+◌, ◌<◌, ◌≤◌, List, map, slice_index}
use Rattle.reference_graph.specs.Links.{Links, from}
use Rattle.reference_graph.specs.Answer.{Refers}
use Rattle.syn_base.specs.Numbers.{greatest}

-- The depth of a vertex by these depths of the others: one more than that of the deepest reference.
abbrev pub depth_by : Links → List ℕ → ℕ → ℕ
depth_by links depths a = greatest (map (slice_index depths) (from links a)) + 1

-- What is settled has a depth that is not 0: one more than its deepest reference, all of which are
-- settled. No depth is above the bound.
pub record IsSettled (links : Links) (depths : List ℕ) (bound : ℕ) : Type 0 where
  pub deeper : (a : ℕ) → 0 < slice_index depths a → slice_index depths a ≡ depth_by links depths a
  pub closed : (a b : ℕ) → 0 < slice_index depths a → Refers links a b → 0 < slice_index depths b
  pub bounded : (a : ℕ) → slice_index depths a ≤ bound
