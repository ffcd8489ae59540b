-- Dates of operations that are renewed turn by turn until they are the chains to them.
use Rattle.std.specs.Prelude.{◌≡◌, ℕ, ◌<◌, ◌≤◌, true, List, length, min, Option, slice_index_or}
use Rattle.self_timed.specs.declared.Source.{Source}
use Rattle.self_timed.specs.declared.Vertex.{Vertex}
use Rattle.self_timed.specs.Graph.{len_of}
use Rattle.self_timed.specs.FlatOrder.{is_done}
use Rattle.self_timed.specs.declared.Medium.{Medium}
use Rattle.lower_bound.specs.Bound.{carried_to, first_end, least_transfer}

abbrev pub at : List ℕ → ℕ → ℕ
at dates v = slice_index_or dates v 0

-- 64 elements of at most 1,000,000 ticks each, and a start of as many
abbrev pub most_transfer : ℕ
most_transfer = 65000000

-- no chain is longer: 2048 operations of at most 1,000,000,000 ticks, each after a transfer
abbrev pub most_date : ℕ
most_date = 2181120000000

-- no value is so long that the least time of its transfers is longer
abbrev pub AreShort : List Medium → List Vertex → Type 0
AreShort media vertices = (o : ℕ) (s : Source) → least_transfer media o (len_of vertices s) ≤ most_transfer

module _ (operators : ℕ) (ticks : ℕ → ℕ → Option ℕ) (vertices : List Vertex) (media : List Medium) where
  abbrev pub renewed : List ℕ → ℕ → ℕ
  renewed dates v = min (first_end operators ticks vertices media (at dates) v) most_date

  -- the dates of all operations that are done after this many rounds are the chains to them
  abbrev pub AreChains : ℕ → List ℕ → Type 0
  AreChains rounds dates =
      (v : ℕ) → is_done vertices rounds v ≡ true → at dates v ≡ carried_to operators ticks vertices media v

  -- a turn leaves them as they are
  abbrev pub AreSettled : List ℕ → Type 0
  AreSettled dates = (v : ℕ) → v < length vertices → at dates v ≡ renewed dates v
