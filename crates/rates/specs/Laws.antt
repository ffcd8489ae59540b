-- Laws of rates: a rate that the acts of a schedule sustain bounds all dates of all reactions from
-- above, and a cycle of arcs bounds them from below.
use Rattle.std.specs.Prelude.{
  ◌≡◌,
  ◌↔◌,
  ◌⊎◌,
  ◌≤◌,
  ◌<◌,
  ◌+◌,
  ◌-◌,
  ◌*◌,
  ◌/◌,
  ℕ,
  IsTrue,
  List,
  ◌∷◌,
  Option,
  Some,
  slice_get,
}
use Rattle.self_timed.specs.declared.Vertex.{Vertex}
use Rattle.self_timed.specs.Graph.{Graph}
use Rattle.self_timed.specs.Archi.{Architecture}
use Rattle.self_timed.specs.declared.Schedule.{Schedule}
use Rattle.self_timed.specs.Acts.{Act, acts, end_of, length_of}
use Rattle.self_timed.specs.ScheduleValid.{is_valid}
use Rattle.self_timed.specs.Dates.{Event, needs, with_act, AreDates}
use Rattle.rates.specs.declared.table.Arc.{Arc}
use Rattle.rates.specs.Arcs.{arcs, back_from}
use Rattle.rates.specs.Rates.{
  stated_at,
  NoneLongerThan,
  NoneShorterThan,
  KeepsOrder,
  Sustains,
  is_sustained,
  IsWayTo,
  IsCycle,
  IsCriticalCycle,
  is_cycle,
  is_critical_cycle,
  lags,
  length_over,
}
use Rattle.rates.specs.Tables.{IsTableOf, rows_fit, is_critical_in}

-- The acts to which the arcs of an act lead from a reaction are all that must precede it there.
abbrev pub ArcsAreNeeds : Type 0
ArcsAreNeeds = (depth : ℕ) (vertices : List Vertex) (xs : List Act) (k i : ℕ) (x : Act)
    → back_from k (arcs depth vertices xs i x) ≡ needs depth vertices xs k i x

-- Acts sustain a rate with some offsets exactly if, in each reaction, each act fits after the
-- beginning and after each event that must precede it. Arcs are not mentioned.
abbrev pub SustainsIsOfNeeds : Type 0
SustainsIsOfNeeds = (depth : ℕ) (vertices : List Vertex) (xs : List Act)
    (long offset : ℕ → ℕ) (ticks reactions : ℕ)
    → Sustains depth vertices xs long ticks reactions offset ↔
    (((i : ℕ) (x : Act) → slice_get xs i ≡ Some x → reactions * long i ≤ offset i)
    × ((k i : ℕ) (x : Act) → slice_get xs i ≡ Some x
    → (r : ℕ) (e : Event) → slice_get (needs depth vertices xs k i x) r ≡ Some e
    → offset e.act + reactions * long i ≤ offset i + (k - e.reaction) * ticks))

-- If acts sustain a rate and none lasts longer than the rate counts with, then for ever act i of
-- reaction k ends no later than k times the ticks and its offset, in parts of a tick.
abbrev pub RatesAreSustained : Type 0
RatesAreSustained = (depth : ℕ) (vertices : List Vertex) (xs : List Act)
    (long offset : ℕ → ℕ) (ticks reactions : ℕ) (lasts ends : ℕ → ℕ → ℕ)
    → 1 ≤ depth → Sustains depth vertices xs long ticks reactions offset
    → NoneLongerThan xs long lasts → AreDates depth vertices xs lasts ends
    → (k i : ℕ) (x : Act) → slice_get xs i ≡ Some x → reactions * ends k i ≤ k * ticks + offset i

-- A valid schedule sustains one reaction in each length of the schedule, with the ends that it
-- states as offsets.
abbrev pub ChartIsSustained : Type 0
ChartIsSustained =
    (depth : ℕ) (g : Graph) (a : Architecture) (ticks : ℕ → ℕ → Option ℕ) (s : Schedule)
    → 1 ≤ depth → IsTrue (is_valid g a ticks s)
    → Sustains depth g.vertices (acts s) (stated_at (acts s)) (length_of s) 1
    (λ i. with_act (slice_get (acts s) i) end_of)

-- In every executive that keeps the order, self-timed or not, n turns of a cycle take at least n
-- times as long as its acts last together, if none lasts shorter than that counts with.
abbrev pub NoExecutiveIsFaster : Type 0
NoExecutiveIsFaster = (depth : ℕ) (vertices : List Vertex) (xs : List Act)
    (long : ℕ → ℕ) (lasts ends : ℕ → ℕ → ℕ)
    → NoneShorterThan xs long lasts → KeepsOrder depth vertices xs lasts ends
    → (i : ℕ) (way : List Arc) → IsCycle depth vertices xs i way
    → (k n : ℕ) → ends k i + n * length_over long way ≤ ends (k + n * lags way) i

-- A rate that acts sustain has at least the ticks that each cycle takes.
abbrev pub NoRateIsBelowACycle : Type 0
NoRateIsBelowACycle = (depth : ℕ) (vertices : List Vertex) (xs : List Act)
    (long offset : ℕ → ℕ) (ticks reactions : ℕ)
    → Sustains depth vertices xs long ticks reactions offset
    → (i : ℕ) (way : List Arc) → IsCycle depth vertices xs i way
    → reactions * length_over long way ≤ ticks * lags way

-- If each act lasts exactly as long as the rate counts with, and the rate has a critical cycle,
-- then it is exact in each reaction k: the first act of the cycle ends no later than k times the
-- ticks and its offset, and earlier than k times the ticks by less than one turn of the cycle.
abbrev pub CriticalCyclesAreExact : Type 0
CriticalCyclesAreExact = (depth : ℕ) (vertices : List Vertex) (xs : List Act)
    (long offset : ℕ → ℕ) (ticks reactions : ℕ) (lasts ends : ℕ → ℕ → ℕ)
    → 1 ≤ depth → Sustains depth vertices xs long ticks reactions offset
    → NoneLongerThan xs long lasts → NoneShorterThan xs long lasts
    → AreDates depth vertices xs lasts ends
    → (i : ℕ) (way : List Arc) → IsCriticalCycle depth vertices xs long ticks reactions i way
    → (k : ℕ) → (k * ticks ≤ reactions * ends k i + (lags way - 1) * ticks)
    × (reactions * ends k i ≤ k * ticks + offset i)

-- If buffers have a place, then arcs that lead from an act to itself, at least one, lead over at
-- least one reaction.
abbrev pub CyclesTakeReactions : Type 0
CyclesTakeReactions = (depth : ℕ) (vertices : List Vertex) (xs : List Act) → 1 ≤ depth
    → (a : Arc) (way : List Arc) → IsWayTo depth vertices xs a.act (a ∷ way) → 0 < lags (a ∷ way)

-- The test of offsets is true exactly if the acts sustain the rate with them.
abbrev pub SustainedIsTested : Type 0
SustainedIsTested = (depth : ℕ) (vertices : List Vertex) (xs : List Act)
    (long offset : ℕ → ℕ) (ticks reactions : ℕ)
    → IsTrue (is_sustained depth vertices xs long ticks reactions offset)
    ↔ Sustains depth vertices xs long ticks reactions offset

-- The test of a cycle is true exactly of cycles, and that of a critical cycle exactly of critical
-- ones.
abbrev pub CycleIsTested : Type 0
CycleIsTested = (depth : ℕ) (vertices : List Vertex) (xs : List Act) (i : ℕ) (way : List Arc)
    → (IsTrue (is_cycle depth vertices xs i way) ↔ IsCycle depth vertices xs i way)
    × ((long : ℕ → ℕ) (ticks reactions : ℕ)
    → IsTrue (is_critical_cycle depth vertices xs long ticks reactions i way)
    ↔ IsCriticalCycle depth vertices xs long ticks reactions i way)

-- If buffers have a place, then every rate is sustained with some offsets, or the acts of a cycle
-- last longer together than the rate has ticks for it.
abbrev pub EveryRateIsSustainedOrExceeded : Type 0
EveryRateIsSustainedOrExceeded = (depth : ℕ) (vertices : List Vertex) (xs : List Act) → 1 ≤ depth
    → (long : ℕ → ℕ) (ticks reactions : ℕ)
    → ((offset : ℕ → ℕ) × Sustains depth vertices xs long ticks reactions offset)
    ⊎ ((i : ℕ) × (way : List Arc) × IsCycle depth vertices xs i way
    × (ticks * lags way < reactions * length_over long way))

-- If buffers have a place, then some rate is exact: it is sustained with some offsets, and it has
-- no ticks or a critical cycle.
abbrev pub SomeRateIsExact : Type 0
SomeRateIsExact = (depth : ℕ) (vertices : List Vertex) (xs : List Act) → 1 ≤ depth
    → (long : ℕ → ℕ) → (ticks : ℕ) × (reactions : ℕ) × (0 < reactions)
    × ((offset : ℕ → ℕ) × Sustains depth vertices xs long ticks reactions offset)
    × ((ticks ≡ 0) ⊎ ((i : ℕ) × (way : List Arc)
    × IsCriticalCycle depth vertices xs long ticks reactions i way))

-- Two exact rates of the same acts are the same, as ratios.
abbrev pub ExactRatesAreOne : Type 0
ExactRatesAreOne = (depth : ℕ) (vertices : List Vertex) (xs : List Act) (long : ℕ → ℕ)
    → (ticks reactions more over : ℕ) → 0 < reactions → 0 < over
    → ((offset : ℕ → ℕ) × Sustains depth vertices xs long ticks reactions offset)
    → ((offset : ℕ → ℕ) × Sustains depth vertices xs long more over offset)
    → (ticks ≡ 0) ⊎ ((i : ℕ) × (way : List Arc)
    × IsCriticalCycle depth vertices xs long ticks reactions i way)
    → (more ≡ 0) ⊎ ((i : ℕ) × (way : List Arc)
    × IsCriticalCycle depth vertices xs long more over i way)
    → ticks * over ≡ more * reactions

-- Over a table of the acts the tests are those of the acts.
abbrev pub TablesAreTested : Type 0
TablesAreTested = (depth : ℕ) (vertices : List Vertex) (xs : List Act) (table : List (List Arc))
    → IsTableOf depth vertices xs table
    → (long : ℕ → ℕ) (ticks reactions : ℕ)
    → ((offset : ℕ → ℕ) → rows_fit long ticks reactions offset table
    ≡ is_sustained depth vertices xs long ticks reactions offset)
    × ((i : ℕ) (way : List Arc) → is_critical_in table long ticks reactions i way
    ≡ is_critical_cycle depth vertices xs long ticks reactions i way)

-- If acts sustain a rate, then an executive by the clock keeps the order: act i of reaction k ends
-- at k times the ticks and its offset, in parts of a tick, rounded down to a tick.
abbrev pub ClockKeepsOrder : Type 0
ClockKeepsOrder = (depth : ℕ) (vertices : List Vertex) (xs : List Act)
    (long offset : ℕ → ℕ) (ticks reactions : ℕ)
    → 0 < reactions → Sustains depth vertices xs long ticks reactions offset
    → KeepsOrder depth vertices xs (λ k i. long i) (λ k i. (k * ticks + offset i) / reactions)
