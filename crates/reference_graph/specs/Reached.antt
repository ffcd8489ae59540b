-- How far the search from a vertex has come.
use Rattle.std.specs.Prelude.{◌≡◌, ℕ, ◌<◌, true, Bool, List, length, slice_index}
use Rattle.reference_graph.specs.Links.{Links, leads_within}
use Rattle.reference_graph.specs.Answer.{Refers}
use Rattle.reference_graph.specs.Search.{IsMarked, IsQueue}

-- After this many of the queue: what is marked was come to on no more links than these and one. What
-- the vertex and those so far in the queue refer to is marked.
pub record IsReached (links : Links) (a : ℕ) (marks : List Bool) (queue : List ℕ) (done : ℕ) : Type 0 where
  pub is_queue : IsQueue marks queue
  pub within : (b : ℕ) → IsMarked marks b → leads_within links done a b ≡ true
  pub begun : (b : ℕ) → Refers links a b → IsMarked marks b
  pub closed : (k b : ℕ) → k < done → k < length queue → Refers links (slice_index queue k) b → IsMarked marks b
