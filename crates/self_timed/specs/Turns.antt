-- What depends on an operation, as a table that is renewed turn by turn.
use Rattle.std.specs.Prelude.{◌≡◌, ℕ, ◌<◌, ◌≤◌, Bool, true, false, List, length, All, slice_index_or}
use Rattle.sequence_build_laws.specs.declared.Vertex.{Vertex}
use Rattle.sequence_build_laws.specs.FlatOrder.{is_done}
use Rattle.self_timed.specs.declared.dates.Span.{Span}
use Rattle.self_timed.specs.Latency.{is_after, leads_to}

abbrev pub at : List Bool → ℕ → Bool
at table w = slice_index_or table w false

-- each reaction has a span for each operation
abbrev pub HaveOperations : List Vertex → List (List Span) → Type 0
HaveOperations vertices rows = All (λ (row : List Span). length vertices ≤ length row) rows

-- each reaction has a span of this number
abbrev pub HaveEntry : List (List Span) → ℕ → Type 0
HaveEntry rows e = All (λ (row : List Span). e < length row) rows

module _ (vertices : List Vertex) (v : ℕ) where
  abbrev pub renewed : List Bool → ℕ → Bool
  renewed table w = is_after vertices v (at table) w

  -- of all operations that are done after this many rounds the table says whether they depend on v
  abbrev pub AreRight : ℕ → List Bool → Type 0
  AreRight rounds table = (w : ℕ) → is_done vertices rounds w ≡ true → at table w ≡ leads_to vertices v w

  -- a turn leaves the table as it is
  abbrev pub AreSettled : List Bool → Type 0
  AreSettled table = (w : ℕ) → w < length vertices → at table w ≡ renewed table w

  -- the table says of each operation whether it depends on v
  pub record IsTable (table : List Bool) : Type 0 where
    pub size : length table ≡ length vertices
    pub each : (w : ℕ) → w < length vertices → at table w ≡ leads_to vertices v w
