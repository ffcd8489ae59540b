-- A flat graph of whose operations some have been put in order.
use Rattle.std.specs.Prelude.{◌≡◌, ℕ, Bool, true, false, List, length, slice_index_or}
use Rattle.flat_graph.specs.declared.vertex.Vertex.{Vertex}
use Rattle.sync_meaning.specs.Order.{is_among, is_ready, AllAreReady}
use Rattle.sync_meaning.specs.declared.order.Begun.{Begun}

-- The flag of operation v.
abbrev pub has_flag : List Bool → ℕ → Bool
has_flag flags v = slice_index_or flags v false

-- Those with a flag stand in the order, each after all that it depends on.
pub record IsBegun (vertices : List Vertex) (b : Begun) : Type 0 where
  pub told : (v : ℕ) → has_flag b.done.items v ≡ true → is_among b.order.items v ≡ true
  pub count : length b.done.items ≡ length vertices
  pub each : AllAreReady vertices b.order.items

-- Operation v has been put in order, if it was ready, and none has been lost.
pub record HasTried (vertices : List Vertex) (v : ℕ) (old new : Begun) : Type 0 where
  pub begun : IsBegun vertices new
  pub still : (u : ℕ) → has_flag old.done.items u ≡ true → has_flag new.done.items u ≡ true
  pub tried : is_ready vertices (has_flag old.done.items) v ≡ true → has_flag new.done.items v ≡ true

-- Each operation has been put in order that was ready, and none has been lost.
pub record HasRound (vertices : List Vertex) (old new : Begun) : Type 0 where
  pub begun : IsBegun vertices new
  pub still : (u : ℕ) → has_flag old.done.items u ≡ true → has_flag new.done.items u ≡ true
  pub tried : (u : ℕ) → is_ready vertices (has_flag old.done.items) u ≡ true → has_flag new.done.items u ≡ true
