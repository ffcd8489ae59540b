-- A trace of dates shows each act of each reaction once, and in each lane one after another.
use Rattle.std.specs.Prelude.{◌≡◌, ◌<◌, ◌≤◌, ℕ, IsTrue, List, map, Option, Some, slice_get}
use Rattle.self_timed.specs.Graph.{Graph}
use Rattle.self_timed.specs.Archi.{Architecture, is_archi, is_depth}
use Rattle.self_timed.specs.declared.Schedule.{Schedule}
use Rattle.self_timed.specs.ScheduleValid.{is_valid}
use Rattle.dates_text.specs.Listing.{Dated, all_dates}
use Rattle.trace_events.specs.Events.{Slice}
use Rattle.trace_events.specs.Trace.{slice_of}
use Rattle.trace_events.specs.Shown.{slices}
use Rattle.trace_events.specs.DatesTrace.{moment_of, dates_events}

-- the slices of the trace are the dated acts, in their order, when the dates say
abbrev pub EachDateOnce : Type 0
EachDateOnce = (g : Graph) (a : Architecture) (s : Schedule) (xs : List Dated)
    → slices (dates_events g a s xs) ≡ map (λ d. slice_of g.vertices a.operators (moment_of d) d.act) xs

-- of two slices in one lane of the trace of a valid schedule's dates, in one reaction or in two,
-- the first ends before
-- the second starts
abbrev pub DatesOneAfterAnother : Type 0
DatesOneAfterAnother =
    (g : Graph) (a : Architecture) (stated : ℕ → ℕ →
    Option ℕ) (s : Schedule) (ticks : List (List ℕ))
    → IsTrue (is_archi a.operators a.media) → IsTrue (is_depth a.depth) →
    IsTrue (is_valid g a stated s)
    → (i j : ℕ) (x y : Slice) → i < j
    → slice_get (slices (dates_events g a s (all_dates g a s ticks))) i ≡ Some x
    → slice_get (slices (dates_events g a s (all_dates g a s ticks))) j ≡ Some y
    → x.lane ≡ y.lane → x.moment.end ≤ y.moment.start
