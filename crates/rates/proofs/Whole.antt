-- The laws of rates, each as its contract states it.
use Rattle.std.proofs.Common.{◌≡◌, ℕ, ◌<◌, List, [], ◌∷◌, Some, inl, inr, arith}
use Rattle.std.specs.Prelude.{slice_get}
use Rattle.self_timed.specs.declared.Vertex.{Vertex}
use Rattle.self_timed.specs.Acts.{Act}
use Rattle.rates.specs.declared.table.Arc.{Arc}
use Rattle.rates.specs.Rates.{lags, IsWayTo}
use Rattle.rates.specs.Laws.{
  ArcsAreNeeds,
  SustainsIsOfNeeds,
  RatesAreSustained,
  ChartIsSustained,
  NoExecutiveIsFaster,
  NoRateIsBelowACycle,
  CriticalCyclesAreExact,
  CyclesTakeReactions,
  SustainedIsTested,
  CycleIsTested,
  EveryRateIsSustainedOrExceeded,
  ExactRatesAreOne,
  SomeRateIsExact,
  TablesAreTested,
  ClockKeepsOrder,
}
use Rattle.rates.proofs.Arced.{arcs_are_needs as are_needs}
use Rattle.rates.proofs.Sustained.{of_events, from_events, sustained}
use Rattle.rates.proofs.Cycles.{turns, no_faster, exact_below, takes_reactions}
use Rattle.rates.proofs.Tested.{tested, passes}
use Rattle.rates.proofs.Walked.{cycle, cycled, critical, is_tested}
use Rattle.rates.proofs.Tabled.{rows_tested, critical_tested}
use Rattle.rates.proofs.Clocked.{keeps}
use Rattle.rates.proofs.Exceeded.{found}
use Rattle.rates.proofs.Exact.{exact}
use Rattle.rates.proofs.Single.{one_rate}
use Rattle.rates.proofs.Charted.{chart_is_sustained as charted}

pub arcs_are_needs : ArcsAreNeeds
arcs_are_needs = are_needs

pub sustains_is_of_needs : SustainsIsOfNeeds
sustains_is_of_needs depth vertices xs long offset ticks reactions = (
  λ s. (s.fits, of_events depth vertices xs long offset ticks reactions s),
  λ h. from_events depth vertices xs long offset ticks reactions h.0 h.1,
)

pub rates_are_sustained : RatesAreSustained
rates_are_sustained depth vertices xs long offset ticks reactions lasts ends deep s short are = sustained depth vertices xs long offset ticks reactions deep s lasts ends short are

pub chart_is_sustained : ChartIsSustained
chart_is_sustained depth g a ticks s deep valid = charted depth deep g a ticks s valid

pub no_executive_is_faster : NoExecutiveIsFaster
no_executive_is_faster depth vertices xs long lasts ends slow keeps = turns depth vertices xs long lasts ends slow keeps

pub no_rate_is_below_a_cycle : NoRateIsBelowACycle
no_rate_is_below_a_cycle depth vertices xs long offset ticks reactions s = no_faster depth vertices xs long offset ticks reactions s

-- the act to which a way leads is one of the acts
last : (depth : ℕ) (vertices : List Vertex) (xs : List Act) (i : ℕ) (a : Arc) (way : List Arc) → IsWayTo depth vertices xs i (a ∷ way) → (x : Act) × (slice_get xs i ≡ Some x)
last depth vertices xs i a [] h = let p = h.0 in (p.it, p.there)
last depth vertices xs i a (b ∷ way) h = last depth vertices xs i b way h.1

is_there : (depth : ℕ) (vertices : List Vertex) (xs : List Act) (i : ℕ) (way : List Arc) → IsWayTo depth vertices xs i way → 0 < lags way → (x : Act) × (slice_get xs i ≡ Some x)
is_there depth vertices xs i [] h l = absurd (omega arith)
is_there depth vertices xs i (a ∷ way) h l = last depth vertices xs i a way h

pub critical_cycles_are_exact : CriticalCyclesAreExact
critical_cycles_are_exact depth vertices xs long offset ticks reactions lasts ends deep s short slow are i way c k = (
  exact_below depth vertices xs long ticks reactions lasts ends slow (λ k j x e. let z = are k j x e in omega arith) i way c k,
  (let x = is_there depth vertices xs i way c.cycle.leads c.cycle.later in sustained depth vertices xs long offset ticks reactions deep s lasts ends short are k i x.0 x.1),
)

pub cycles_take_reactions : CyclesTakeReactions
cycles_take_reactions depth vertices xs deep = takes_reactions depth deep vertices xs

pub sustained_is_tested : SustainedIsTested
sustained_is_tested depth vertices xs long offset ticks reactions = (tested depth vertices xs long ticks reactions offset, passes depth vertices xs long ticks reactions offset)

pub cycle_is_tested : CycleIsTested
cycle_is_tested depth vertices xs i way = (
  (cycle depth vertices xs i way, cycled depth vertices xs i way),
  λ long ticks reactions. (critical depth vertices xs i way long ticks reactions, is_tested depth vertices xs i way long ticks reactions),
)

pub every_rate_is_sustained_or_exceeded : EveryRateIsSustainedOrExceeded
every_rate_is_sustained_or_exceeded depth vertices xs deep long ticks reactions = elim (found depth deep vertices xs long ticks reactions) [
  | inl f ↦ inl f
  | inr c ↦ inr (c.0, c.1, c.2, c.3)
]

pub some_rate_is_exact : SomeRateIsExact
some_rate_is_exact depth vertices xs deep long = exact depth deep vertices xs long

pub exact_rates_are_one : ExactRatesAreOne
exact_rates_are_one = one_rate

pub tables_are_tested : TablesAreTested
tables_are_tested depth vertices xs table is long ticks reactions = (
  rows_tested depth vertices xs table is long ticks reactions,
  critical_tested depth vertices xs table is long ticks reactions,
)

pub clock_keeps_order : ClockKeepsOrder
clock_keeps_order = keeps
