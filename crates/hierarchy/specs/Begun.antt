-- A level of which some vertices have run.
use Rattle.std.specs.Prelude.{◌≡◌, ℕ, ◌<◌, Bool, true, false, List, length, take, slice_get, slice_index_or}
use Rattle.algo_tree.specs.Level.{Node, with_node}
use Rattle.algo_tree.specs.Order.{is_ready}
use Rattle.hierarchy.specs.Order.{is_done, is_among, MayRun}
use Rattle.hierarchy.specs.declared.order.Begun.{Begun}

-- Each entry may run after those before it.
abbrev pub AllMayRun : List Node → List ℕ → Type 0
AllMayRun cs order = (i : ℕ) → i < length order → MayRun cs (take i order) (slice_index_or order i 0)

-- These nodes have run in this order, and the flags tell which.
pub record IsBegun (cs : List Node) (b : Begun) : Type 0 where
  pub flags : (q : ℕ) → is_done b.done.items q ≡ is_among b.order.items q
  pub dones : length b.done.items ≡ length cs
  pub each : AllMayRun cs b.order.items

-- All that node r asks for has run.
abbrev pub is_ready_at : List Node → Begun → ℕ → Bool
is_ready_at cs b r = with_node (slice_get cs r) false (is_ready (is_done b.done.items))

-- Node r has run, if it was ready, and none that had run is lost.
pub record HasTried (cs : List Node) (r : ℕ) (old new : Begun) : Type 0 where
  pub begun : IsBegun cs new
  pub still : (q : ℕ) → is_done old.done.items q ≡ true → is_done new.done.items q ≡ true
  pub tried : is_ready_at cs old r ≡ true → is_done new.done.items r ≡ true

-- Each node has run that was ready, and none that had run is lost.
pub record HasRound (cs : List Node) (old new : Begun) : Type 0 where
  pub begun : IsBegun cs new
  pub still : (q : ℕ) → is_done old.done.items q ≡ true → is_done new.done.items q ≡ true
  pub tried : (q : ℕ) → is_ready_at cs old q ≡ true → is_done new.done.items q ≡ true
