-- Rates: what it means that acts sustain one for ever, and the cycles of arcs that no executive
-- exceeds. A rate is a number of ticks for a number of reactions.
use Rattle.std.specs.Prelude.{
  ◌≡◌,
  ◌≤◌,
  ◌<◌,
  ◌+◌,
  ◌*◌,
  ℕ,
  suc,
  Bool,
  true,
  false,
  ◌&&◌,
  ◌==◌,
  nat_le,
  List,
  [],
  ◌∷◌,
  Option,
  Some,
  None,
  slice_get,
  sum_by,
}
use Rattle.std.specs.List.{list_all, list_any}
use Rattle.self_timed.specs.declared.Vertex.{Vertex}
use Rattle.self_timed.specs.Acts.{Act}
use Rattle.self_timed.specs.Dates.{start_by, with_act}
use Rattle.self_timed.specs.Entries.{stated}
use Rattle.rates.specs.declared.table.Arc.{Arc}
use Rattle.rates.specs.Arcs.{arcs}

-- The number of reactions over which these arcs lead together.
abbrev pub lags : List Arc → ℕ
lags way = sum_by (λ a. a.lag) way

-- How many ticks the acts to which these arcs lead last together, if act i lasts `long i`.
abbrev pub length_over : (ℕ → ℕ) → List Arc → ℕ
length_over long way = sum_by (λ a. long a.act) way

-- The act to which the first of these arcs leads, and act i if there are none.
abbrev pub begin_or : ℕ → List Arc → ℕ
begin_or i [] = i
begin_or i (a ∷ more) = a.act

-- Both arcs lead to the same act, over the same number of reactions.
abbrev pub same_arc : Arc → Arc → Bool
same_arc a b = a.act == b.act && a.lag == b.lag

-- How many ticks act i lasts as the schedule states it, and 0 if there is no act i.
abbrev pub stated_at : List Act → ℕ → ℕ
stated_at xs i = with_act (slice_get xs i) stated

-- With its offset act i has room after the act to which the arc leads, at this rate.
abbrev pub has_room : (ℕ → ℕ) → ℕ → ℕ → (ℕ → ℕ) → ℕ → Arc → Bool
has_room long ticks reactions offset i a =
    nat_le (offset a.act + reactions * long i) (offset i + a.lag * ticks)

-- Durations in ticks: `lasts k i` is that of act i in reaction k, and `long i` a bound on it.
module _ (xs : List Act) where
  -- In no reaction does an act last longer than its bound.
  abbrev pub NoneLongerThan : (ℕ → ℕ) → (ℕ → ℕ → ℕ) → Type 0
  NoneLongerThan long lasts = (k i : ℕ) (x : Act) → slice_get xs i ≡ Some x → lasts k i ≤ long i

  -- In no reaction does an act last shorter than its bound.
  abbrev pub NoneShorterThan : (ℕ → ℕ) → (ℕ → ℕ → ℕ) → Type 0
  NoneShorterThan long lasts = (k i : ℕ) (x : Act) → slice_get xs i ≡ Some x → long i ≤ lasts k i

-- The acts xs of a schedule, if buffers that another sequence reads have this depth.
module _ (depth : ℕ) (vertices : List Vertex) (xs : List Act) where
  -- Act i of reaction k lasts `lasts k i` and ends at `ends k i` in an executive that keeps the
  -- order, self-timed or not: no act starts before all that must precede it has ended.
  abbrev pub KeepsOrder : (ℕ → ℕ → ℕ) → (ℕ → ℕ → ℕ) → Type 0
  KeepsOrder lasts ends = (k i : ℕ) (x : Act) → slice_get xs i ≡ Some x
      → start_by depth vertices xs ends k i x + lasts k i ≤ ends k i

  -- The acts sustain a rate of so many ticks for so many reactions if act i lasts `long i` ticks:
  -- with these offsets each act fits after the beginning, and after each act to which an arc of it
  -- leads. Offsets are in parts of a tick, of which a tick has as many as the rate has reactions.
  pub record Sustains (long : ℕ → ℕ) (ticks reactions : ℕ) (offset : ℕ → ℕ) : Type 0 where
    pub fits : (i : ℕ) (x : Act) → slice_get xs i ≡ Some x → reactions * long i ≤ offset i
    pub follows : (i : ℕ) (x : Act) → slice_get xs i ≡ Some x
        → (r : ℕ) (a : Arc) → slice_get (arcs depth vertices xs i x) r ≡ Some a
        → offset a.act + reactions * long i ≤ offset i + a.lag * ticks

  -- The arc is one of act i.
  pub record Precedes (a : Arc) (i : ℕ) : Type 0 where
    pub it : Act
    pub there : slice_get xs i ≡ Some it
    pub at : ℕ
    pub is : slice_get (arcs depth vertices xs i it) at ≡ Some a

  -- These arcs are a way to act i: each is an arc of the act to which the next one leads, and the
  -- last one is an arc of act i.
  abbrev pub IsWayTo : ℕ → List Arc → Type 0
  IsWayTo i [] = Unit {0}
  IsWayTo i (a ∷ more) = Precedes a (begin_or i more) × IsWayTo i more

  -- These arcs are a cycle: a way from act i to itself, over at least one reaction.
  pub record IsCycle (i : ℕ) (way : List Arc) : Type 0 where
    pub begins : begin_or i way ≡ i
    pub leads : IsWayTo i way
    pub later : 0 < lags way

  -- The cycle is critical at this rate: its acts last together as many ticks as the rate has for
  -- the reactions over which the cycle leads.
  pub record IsCriticalCycle (long : ℕ → ℕ) (ticks reactions i : ℕ) (way : List Arc) : Type 0 where
    pub cycle : IsCycle i way
    pub rate : reactions * length_over long way ≡ ticks * lags way

  -- The test whether the acts sustain a rate with these offsets.
  module _ (long : ℕ → ℕ) (ticks reactions : ℕ) (offset : ℕ → ℕ) where
    -- Each of these acts, of which the first has number i, fits with its offset.
    abbrev pub is_sustained_from : ℕ → List Act → Bool
    is_sustained_from i [] = true
    is_sustained_from i (x ∷ more) =
        nat_le (reactions * long i) (offset i)
        && (list_all (has_room long ticks reactions offset i) (arcs depth vertices xs i x)
        && is_sustained_from (suc i) more)

    -- Each act fits with its offset.
    abbrev pub is_sustained : Bool
    is_sustained = is_sustained_from 0 xs

  -- The arc is one of act i, which is given if it is there.
  abbrev pub has_arc : Arc → ℕ → Option Act → Bool
  has_arc a i None = false
  has_arc a i (Some x) = list_any (same_arc a) (arcs depth vertices xs i x)

  -- The test whether these arcs are a way to act i.
  abbrev pub is_way_to : ℕ → List Arc → Bool
  is_way_to i [] = true
  is_way_to i (a ∷ more) =
      has_arc a (begin_or i more) (slice_get xs (begin_or i more)) && is_way_to i more

  -- The test whether these arcs are a cycle from act i.
  abbrev pub is_cycle : ℕ → List Arc → Bool
  is_cycle i way = begin_or i way == i && (is_way_to i way && nat_le 1 (lags way))

  -- The test whether these arcs are a cycle from act i that is critical at this rate.
  abbrev pub is_critical_cycle : (ℕ → ℕ) → ℕ → ℕ → ℕ → List Arc → Bool
  is_critical_cycle long ticks reactions i way =
      is_cycle i way && reactions * length_over long way == ticks * lags way
