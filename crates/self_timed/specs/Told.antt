-- What is told of the dates of reactions, entry by entry.
use Rattle.std.specs.Prelude.{
  ◌≡◌,
  ℕ,
  ◌+◌,
  ◌*◌,
  ◌<◌,
  ◌≤◌,
  IsTrue,
  List,
  [],
  length,
  Some,
  All,
  slice_get,
  slice_index_or,
}
use Rattle.std.specs.List.{count_by}
use Rattle.sequence_build_laws.specs.Graph.{Graph}
use Rattle.sequence_build_laws.specs.Archi.{Architecture}
use Rattle.sequence_build_laws.specs.Table.{Table, IsRow, entry_in}
use Rattle.sequence_build_laws.specs.declared.Schedule.{Schedule}
use Rattle.sequence_build_laws.specs.Acts.{Act, acts, start_of, end_of, length_of}
use Rattle.sequence_build_laws.specs.Tight.{is_tight}
use Rattle.sequence_build_laws.specs.ScheduleValid.{is_valid}
use Rattle.self_timed.specs.Dates.{dates, has_reader, start_by}
use Rattle.self_timed.specs.Entries.{is_transfer, entry_of, lasting, IsFirstStated}
use Rattle.self_timed.specs.declared.dates.Span.{Span}
use Rattle.self_timed.specs.Running.{span, span_in}

-- The spans of reaction k, by entry, and the empty row if there is no such reaction.
abbrev pub reaction_at : List (List Span) → ℕ → List Span
reaction_at reactions k = slice_index_or reactions k []

-- The span of entry e in reaction k, and the span from 0 to 0 if there is none.
abbrev pub span_at : List (List Span) → ℕ → ℕ → Span
span_at reactions k e = span_in (reaction_at reactions k) e

-- how many entries a schedule has: operations and transfers
abbrev pub entries_of : Graph → Schedule → ℕ
entries_of g s = length g.vertices + count_by is_transfer (acts s)

-- each reaction has ticks for this number of entries
abbrev pub HaveEntries : ℕ → List (List ℕ) → Type 0
HaveEntries entries ticks = All (λ (row : List ℕ). length row ≡ entries) ticks

-- valid for some durations, none of which is above 1,000,000,000
pub record IsValidForSome (graph : Graph) (archi : Architecture) (schedule : Schedule) : Type 0 where
  pub durations : Table
  pub rows : All (IsRow durations.operators) durations.rows
  pub valid : IsTrue (is_valid graph archi (entry_in durations) schedule)

-- Buffers have this many places in the dates: those of the architecture, where some act reads in another sequence what
-- an act makes.
pub record HaveDepth (graph : Graph) (archi : Architecture) (schedule : Schedule) (depth : ℕ) : Type 0 where
  pub least : 1 ≤ depth
  pub same : (i j : ℕ) (x y : Act) → slice_get (acts schedule) i ≡ Some x → slice_get (acts schedule) j ≡ Some y
      → IsTrue (has_reader graph.vertices x y) → depth ≡ archi.depth

-- What is told of a schedule, by the depth of buffers and the ticks of each reaction.
module _ (depth : ℕ) (g : Graph) (s : Schedule) (ticks : List (List ℕ)) where
  -- The date at which act i ends in reaction k, in ticks from the beginning of the first reaction.
  abbrev pub end_at : ℕ → ℕ → ℕ
  end_at = dates depth g.vertices (acts s) (lasting g.vertices (acts s) ticks)

  -- The date at which act i, which is x, starts in reaction k, in ticks from the beginning of the
  -- first reaction.
  abbrev pub start_at : ℕ → ℕ → Act → ℕ
  start_at = start_by depth g.vertices (acts s) end_at

  -- Each reaction has a span for each entry, and that of each act's entry is from its start to its end.
  pub record AreDatesOf (reactions : List (List Span)) : Type 0 where
    pub count : length reactions ≡ length ticks
    pub entries : All (λ (row : List Span). length row ≡ entries_of g s) reactions
    pub each : (k i : ℕ) (x : Act) → k < length ticks → slice_get (acts s) i ≡ Some x
        → span_at reactions k (entry_of g.vertices (acts s) i) ≡ span (start_at k i x) (end_at k i)

module _ (g : Graph) (s : Schedule) (reactions : List (List Span)) where
  -- no act of reaction k ends later than k times the schedule's length and its end there
  abbrev pub EndInTime : Type 0
  EndInTime = (k i : ℕ) (x : Act) → k < length reactions → slice_get (acts s) i ≡ Some x
      → (span_at reactions k (entry_of g.vertices (acts s) i)).end ≤ k * length_of s + end_of x

  -- the first reaction has the schedule's dates
  abbrev pub IsChart : Type 0
  IsChart = (i : ℕ) (x : Act) → 0 < length reactions → slice_get (acts s) i ≡ Some x
      → span_at reactions 0 (entry_of g.vertices (acts s) i) ≡ span (start_of x) (end_of x)

-- where each entry of the first reaction lasts as stated, and the schedule is tight, that reaction has the
-- schedule's dates
abbrev pub StartsAsStated : Graph → Schedule → List (List ℕ) → List (List Span) → Type 0
StartsAsStated g s ticks reactions =
    IsFirstStated g.vertices (acts s) ticks → IsTrue (is_tight g s) → IsChart g s reactions
