-- Candidates by the tables, and the arrivals that are kept of them.
use Rattle.std.specs.Prelude.{
  ◌≡◌,
  ◌≢◌,
  ◌⊎◌,
  nat_eq,
  ℕ,
  ◌+◌,
  ◌<◌,
  ◌≤◌,
  Bool,
  true,
  false,
  ◌&&◌,
  not,
  if◌then◌else◌,
  List,
  [],
  ◌∷◌,
  length,
  All,
  Option,
  Some,
  None,
  is_some,
  take,
  slice_get,
  slice_index_or,
}
use Rattle.std.specs.List.{list_all, list_any}
use Rattle.route_table.specs.Table.{route_in}
use Rattle.schedule.specs.declared.Source.{Source}
use Rattle.schedule.specs.declared.Vertex.{Vertex}
use Rattle.schedule.specs.Graph.{with_vertex}
use Rattle.schedule.specs.FlatOrder.{depends_on}
use Rattle.comm_routing.specs.Board.{Board, FitsAll, HasWay, held_in, on_in, time_in}
use Rattle.comm_routing.specs.Dependents.{AreDependents}
use Rattle.comm_routing.specs.Walk.{fetch_all, walk}
use Rattle.comm_routing.specs.declared.reach.Walks.{Walks}
use Rattle.comm_routing.specs.declared.candidates.Candidates.{Candidates}
use Rattle.comm_routing.specs.declared.candidates.Ready.{Ready}

abbrev pub is_placed_in : Board → ℕ → Bool
is_placed_in b v = is_some (slice_index_or b.places v None)

-- it is not placed, and all that it depends on is
abbrev pub is_free_in : Board → ℕ → Vertex → Bool
is_free_in b v x = not (is_placed_in b v) && list_all (is_placed_in b) (depends_on x)

-- The operations on which operation v depends; none if there is no such operation.
abbrev pub needs_of : List Vertex → ℕ → List ℕ
needs_of vertices v = with_vertex (slice_get vertices v) [] depends_on

abbrev pub is_candidate_in : List Vertex → Board → ℕ → Bool
is_candidate_in vertices b v = with_vertex (slice_get vertices v) false (is_free_in b v)

-- the places of those that are set, of which the first has this number
abbrev pub places_from : ℕ → List Bool → List ℕ
places_from v [] = []
places_from v (flag ∷ flags) = if flag then v ∷ places_from (v + 1) flags else places_from (v + 1) flags

-- the distinct sources of an operation
abbrev pub reads_in : Walks → ℕ → List Source
reads_in w v = slice_index_or w.reads.now v []

-- the arrival of an operation on an operator, by the tables
abbrev pub arrival_at : Walks → ℕ → ℕ → ℕ
arrival_at w v p =
    (fetch_all (time_in w.media.now w.board.now) (held_in w.board.now) (on_in w.board.now) (route_in w.routes.now) p
    (reads_in w v) (walk w.board.now.ends 0)).date

-- the walks of an operation on an operator are there, and their dates fit
pub record CanWalk (w : Walks) (v p : ℕ) : Type 0 where
  pub ways : All (HasWay w.media.now w.board.now (route_in w.routes.now) w.routes.now.operators p)
      (reads_in w v)
  pub fits : FitsAll w.media.now w.board.now (route_in w.routes.now) p (reads_in w v)
      (walk w.board.now.ends 0)

pub record HasWalks (w : Walks) : Type 0 where
  pub operators : w.operators ≤ 16
  pub routes : w.operators ≡ w.routes.now.operators
  pub media : length w.media.now ≤ 16

-- no arrival of the row is known
abbrev pub AreUnknown : List (Option ℕ) → Type 0
AreUnknown row = (p : ℕ) → slice_index_or row p None ≡ None

-- The arrivals that are kept of operation v, by operator, and the empty row if there is none for v.
abbrev pub row_at : List (List (Option ℕ)) → ℕ → List (Option ℕ)
row_at rows v = slice_index_or rows v []

-- the arrival of an operation on an operator that is kept, if there is one
abbrev pub kept_in : List (List (Option ℕ)) → ℕ → ℕ → Option ℕ
kept_in rows v p = slice_index_or (row_at rows v) p None

-- no arrival is kept but those that were, and this date of operation v on operator p
abbrev pub HasOneMore : List (List (Option ℕ)) → List (List (Option ℕ)) → ℕ → ℕ → ℕ → Type 0
HasOneMore before after v p date =
    (w q n : ℕ) → kept_in after w q ≡ Some n
    → (kept_in before w q ≡ Some n) ⊎ ((w ≡ v) × (q ≡ p) × (n ≡ date))

-- The flags and the list are of this many operations, and the list has the places of those that are set.
pub record IsListed (operations : ℕ) (r : Ready) : Type 0 where
  pub flags : length r.flags.items ≡ operations
  pub list : length r.list.items ≡ operations
  pub count : r.count ≤ operations
  pub ready : take r.count r.list.items ≡ places_from 0 r.flags.items

-- those whose arrivals are not known any more: where arrivals are kept, no other than these dependents
abbrev pub sought_in : Bool → List ℕ → Ready → List ℕ
sought_in keeps dependents r = if keeps then dependents else take r.count r.list.items

-- what is kept of this many operations
pub record HasSize (operations : ℕ) (c : Candidates) : Type 0 where
  pub flags : length c.ready.flags.items ≡ operations
  pub list : length c.ready.list.items ≡ operations
  pub count : c.ready.count ≤ operations
  pub arrivals : length c.arrivals.items ≡ operations
  pub dependents : length c.dependents.items ≡ operations

-- Operation v is marked as a candidate. An operation outside the table is not.
abbrev pub flag_in : Ready → ℕ → Bool
flag_in r v = slice_index_or r.flags.items v false

-- The same in all that is kept of candidates: operation v is marked as one.
abbrev pub flag_at : Candidates → ℕ → Bool
flag_at c v = flag_in c.ready v

-- The arrival of operation v on operator p, as a date in ticks, if it is kept, and None otherwise.
abbrev pub kept_at : Candidates → ℕ → ℕ → Option ℕ
kept_at c v p = kept_in c.arrivals.items v p

-- The operations that are listed as candidates, by number: as many from the front of the list as
-- its count says.
abbrev pub ready_in : Candidates → List ℕ
ready_in c = take c.ready.count c.ready.list.items

-- The flags are those of the operations before this one was placed: those of all that do not depend on it are right.
pub record IsBehind (vertices : List Vertex) (b : Board) (placed : ℕ) (c : Candidates) : Type 0 where
  pub operation : placed < length vertices
  pub ready : ready_in c ≡ places_from 0 c.ready.flags.items
  pub dependents : AreDependents vertices c.dependents.items
  pub no_candidate : is_candidate_in vertices b placed ≡ false
  pub others : (v : ℕ) → v < length vertices → v ≢ placed → list_any (nat_eq placed) (needs_of vertices v) ≡ false
      → flag_at c v ≡ is_candidate_in vertices b v

-- The candidates by the tables. Their arrivals are unknown, or stay where they are kept.
pub record IsUpdated (vertices : List Vertex) (b : Board) (keeps : Bool) (before after : Candidates) : Type 0 where
  pub size : HasSize (length vertices) after
  pub dependents : after.dependents.items ≡ before.dependents.items
  pub flags : (v : ℕ) → v < length vertices → flag_at after v ≡ is_candidate_in vertices b v
  pub ready : ready_in after ≡ places_from 0 after.ready.flags.items
  pub arrivals : (v : ℕ) → v < length vertices → flag_at after v ≡ true
      → AreUnknown (row_at after.arrivals.items v)
      ⊎ (((flag_at before v && keeps) ≡ true) × (row_at after.arrivals.items v ≡ row_at before.arrivals.items v))
