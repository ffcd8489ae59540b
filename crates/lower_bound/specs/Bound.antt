-- A bound below the length of every schedule.
use Rattle.std.specs.Prelude.{
  ℕ,
  zero,
  suc,
  ◌+◌,
  ◌-◌,
  ◌*◌,
  ◌/◌,
  Bool,
  ◌&&◌,
  ◌||◌,
  nat_eq,
  nat_lt,
  List,
  length,
  map,
  max,
  if◌then◌else◌,
  Option,
  Some,
  None,
  is_none,
  is_some,
  unwrap_or,
  slice_get,
  sum_by,
  count_by,
  filter,
}
use Rattle.std.specs.List.{list_all, list_any, range_with_len}
use Rattle.comm_routing.specs.Candidates.{needs_of}
use Rattle.syn_base.specs.Numbers.{greatest}
use Rattle.self_timed.specs.declared.Source.{Source}
use Rattle.self_timed.specs.declared.Vertex.{Vertex}
use Rattle.self_timed.specs.Graph.{len_of, with_vertex}
use Rattle.self_timed.specs.FlatOrder.{get_half}
use Rattle.self_timed.specs.declared.Medium.{Medium}
use Rattle.self_timed.specs.Archi.{stands_at}
use Rattle.self_timed.specs.Table.{least_of}
use Rattle.self_timed.specs.Acts.{sources_of}

-- the greatest of so many parts that are as equal as can be
abbrev pub divided_up : ℕ → ℕ → ℕ
divided_up n parts = (n + (parts - 1)) / parts

-- the sum, where the first part is there
abbrev pub later_by : Option ℕ → ℕ → Option ℕ
later_by None n = None
later_by (Some t) n = Some (t + n)

-- how long the medium takes to carry this many elements to the operator, if that stands at the medium
abbrev pub brought_in : ℕ → ℕ → Medium → Option ℕ
brought_in o n m = if stands_at m o then Some (m.fixed + n * m.per) else None

-- the least time in which a medium carries this many elements to the operator, 0 where none does
abbrev pub least_transfer : List Medium → ℕ → ℕ → ℕ
least_transfer media o n = unwrap_or (least_of (map (brought_in o n) media)) 0

-- All operations of a graph that has so many, by their numbers from 0.
abbrev pub all_operations : ℕ → List ℕ
all_operations operations = range_with_len 0 operations

-- All operators of an architecture that has so many, by their numbers from 0.
abbrev pub all_operators : ℕ → List ℕ
all_operators operators = range_with_len 0 operators

-- how long each operation lasts on each of this many operators, where it may stand
module _ (operators : ℕ) (ticks : ℕ → ℕ → Option ℕ) where
  -- the least duration of an operation
  abbrev pub least : ℕ → ℕ
  least v = unwrap_or (least_of (map (ticks v) (all_operators operators))) 0

  -- the operation takes time wherever it stands, and it may stand on this operator
  abbrev pub takes_time_on : ℕ → ℕ → Bool
  takes_time_on o v = nat_lt 0 (least v) && is_some (ticks v o)

  -- the operation may stand on no other operator
  abbrev pub stands_only : ℕ → ℕ → Bool
  stands_only o v = list_all (λ p. nat_eq p o || is_none (ticks v p)) (all_operators operators)

  module _ (operations : ℕ) where
    -- an operation that takes time wherever it stands may stand on this operator
    abbrev pub may_work : ℕ → Bool
    may_work o = list_any (takes_time_on o) (all_operations operations)

    -- the least durations of all operations, divided among the operators that may work
    abbrev pub shared_work : ℕ
    shared_work =
        divided_up (sum_by least (all_operations operations)) (max (count_by may_work (all_operators operators)) 1)

    -- the durations of the operations that may stand on this operator alone
    abbrev pub work_only : ℕ → ℕ
    work_only o = sum_by least (filter (stands_only o) (all_operations operations))

    -- the greatest of all operators
    abbrev pub greatest_work : ℕ
    greatest_work = greatest (map work_only (all_operators operators))

  module _ (vertices : List Vertex) where
    -- when an operation ends that starts at the greatest of these dates of those that it needs
    abbrev pub end_after : (ℕ → ℕ) → ℕ → ℕ
    end_after dates v = least v + greatest (map dates (needs_of vertices v))

    -- The longest time up to the end of an operation, by least durations, along operations of which each depends on
    -- the one before. At most this many are followed.
    abbrev pub chain_within : ℕ → ℕ → ℕ
    chain_within zero v = 0
    chain_within (suc n) v = end_after (chain_within n) v

    -- The longest time up to the end of operation v, by least durations and without transfers,
    -- along operations of which each depends on the one before. The duration of v counts too.
    abbrev pub chain_to : ℕ → ℕ
    chain_to v = chain_within (length vertices) v

    -- How many ticks a longest chain of operations takes by least durations and without transfers,
    -- and 0 if there are no operations.
    abbrev pub longest_chain : ℕ
    longest_chain = greatest (map chain_to (all_operations (length vertices)))

    -- the media of an architecture
    module _ (media : List Medium) where
      -- No value is there on an operator before its operation has ended, at this date. Where that operation may not
      -- stand on this operator, a transfer brings the value.
      abbrev pub arrival : (ℕ → ℕ) → ℕ → Source → ℕ
      arrival dates o s =
          dates s.vertex + (if is_some (ticks s.vertex o) then 0 else least_transfer media o (len_of vertices s))

      -- An operation starts once all that it reads has arrived, and of a set half the get half has ended.
      abbrev pub start_on : (ℕ → ℕ) → ℕ → Vertex → ℕ
      start_on dates o x =
          max (greatest (map (arrival dates o) (sources_of (Some x)))) (greatest (map dates (get_half x.kind x.twin)))

      -- when it ends on an operator, if it may stand there
      abbrev pub end_on : (ℕ → ℕ) → ℕ → ℕ → Option ℕ
      end_on dates v o = later_by (ticks v o) (with_vertex (slice_get vertices v) 0 (start_on dates o))

      -- when it ends on the operator on which it ends first
      abbrev pub first_end : (ℕ → ℕ) → ℕ → ℕ
      first_end dates v = unwrap_or (least_of (map (end_on dates v) (all_operators operators))) 0

      -- The longest time up to the end of an operation, along operations of which each depends on the one before, with
      -- the transfers that they cannot do without. At most this many are followed.
      abbrev pub carried_within : ℕ → ℕ → ℕ
      carried_within zero v = 0
      carried_within (suc n) v = first_end (carried_within n) v

      -- The end of operation v if each operation runs on the operator on which it ends first, waits
      -- for nothing but what it depends on, and has only the transfers that it cannot do without.
      abbrev pub carried_to : ℕ → ℕ
      carried_to v = carried_within (length vertices) v

      -- The latest of these ends of all operations, and 0 if there are no operations.
      abbrev pub longest_carried : ℕ
      longest_carried = greatest (map carried_to (all_operations (length vertices)))

      -- the longest chain with transfers, the work that is shared, and the greatest work that one operator alone may do
      abbrev pub lower_bound : ℕ
      lower_bound = max longest_carried (max (shared_work (length vertices)) (greatest_work (length vertices)))
