-- A trace shows each act of its schedule once, and in each lane one after another.
use Rattle.std.specs.Prelude.{◌≡◌, ◌<◌, ◌≤◌, ℕ, IsTrue, List, [], ◌∷◌, map, Option, Some, slice_get}
use Rattle.std.specs.List.{flat_map}
use Rattle.self_timed.specs.Graph.{Graph}
use Rattle.self_timed.specs.Archi.{Architecture, is_archi}
use Rattle.self_timed.specs.declared.Schedule.{Schedule}
use Rattle.self_timed.specs.Acts.{acts}
use Rattle.self_timed.specs.ScheduleValid.{is_valid}
use Rattle.trace_events.specs.Events.{Slice, Event, thread, lasts, leaves, arrives}
use Rattle.trace_events.specs.Trace.{slice_of, chart_moment, chart_events}

-- what lasts
abbrev pub slice_in : Event → List Slice
slice_in (lasts s) = s ∷ []
slice_in (thread n word name) = []
slice_in (leaves f) = []
slice_in (arrives f) = []

-- The slices among these events, in their order.
abbrev pub slices : List Event → List Slice
slices events = flat_map slice_in events

-- the slices of a chart's trace are its acts, in their order, when the chart says
abbrev pub EachActOnce : Type 0
EachActOnce = (g : Graph) (a : Architecture) (s : Schedule)
    → slices (chart_events g a s) ≡ map (λ x. slice_of g.vertices a.operators (chart_moment x) x) (acts s)

-- of two slices in one lane of a valid schedule's trace, the first ends before the second starts
abbrev pub OneAfterAnother : Type 0
OneAfterAnother = (g : Graph) (a : Architecture) (ticks : ℕ → ℕ → Option ℕ) (s : Schedule)
    → IsTrue (is_archi a.operators a.media) → IsTrue (is_valid g a ticks s)
    → (i j : ℕ) (x y : Slice) → i < j
    → slice_get (slices (chart_events g a s)) i ≡ Some x →
    slice_get (slices (chart_events g a s)) j ≡ Some y
    → x.lane ≡ y.lane → x.moment.end ≤ y.moment.start
