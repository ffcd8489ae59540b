-- The period of a schedule's self-timed executive: how long the last half of some reactions takes, where each entry
-- lasts as stated.
use Rattle.std.specs.Prelude.{
  ◌≡◌,
  ℕ,
  zero,
  suc,
  ◌-◌,
  ◌*◌,
  ◌/◌,
  ◌≤◌,
  ◌<◌,
  IsTrue,
  List,
  map,
  max,
  length,
  take,
  Some,
  All,
  slice_get,
  sum_by,
}
use Rattle.std.specs.List.{range_with_len}
use Rattle.sequence_build_laws.specs.Graph.{Graph}
use Rattle.sequence_build_laws.specs.Archi.{Architecture}
use Rattle.sequence_build_laws.specs.declared.Schedule.{Schedule}
use Rattle.sequence_build_laws.specs.Acts.{Act, acts, is_on}
use Rattle.self_timed.specs.Dates.{dates, start_by, with_act}
use Rattle.self_timed.specs.Entries.{entry_of, stated}
use Rattle.self_timed.specs.declared.dates.Span.{Span}
use Rattle.self_timed.specs.Running.{span}
use Rattle.self_timed.specs.Told.{entries_of, span_at}
use Rattle.self_timed.specs.declared.period.Period.{Period}
use Rattle.syn_base.specs.Numbers.{greatest}

-- how long act i lasts in reaction k, where each act lasts as stated in each reaction
abbrev pub as_stated : List Act → ℕ → ℕ → ℕ
as_stated xs k i = with_act (slice_get xs i) stated

-- Each of so many acts ends in each reaction at its date.
module _ (ends : ℕ → ℕ → ℕ) (many : ℕ) where
  -- when all acts of reaction k are done
  abbrev pub done_in : ℕ → ℕ
  done_in k = greatest (map (ends k) (range_with_len 0 many))

  -- when the first k reactions are done
  abbrev pub done_by : ℕ → ℕ
  done_by zero = 0
  done_by (suc k) = max (done_in k) (done_by k)

-- The last half of so many reactions: how long after the others they are done, and how many they are. Of an odd number
-- the one in the middle is among them.
abbrev pub last_half : (ℕ → ℕ) → ℕ → Period
last_half done n = record { ticks = done n - done (n / 2); reactions = n - n / 2 }

-- The dates of a schedule where each act lasts as stated.
module _ (g : Graph) (a : Architecture) (s : Schedule) where
  -- The date at which act i ends in reaction k, if in every reaction each act lasts as stated.
  abbrev pub stated_end : ℕ → ℕ → ℕ
  stated_end = dates a.depth g.vertices (acts s) (as_stated (acts s))

  -- The date at which act i, which is x, starts in reaction k, if in every reaction each act lasts
  -- as stated.
  abbrev pub stated_start : ℕ → ℕ → Act → ℕ
  stated_start = start_by a.depth g.vertices (acts s) stated_end

  -- the period of a schedule over so many reactions
  abbrev pub period_of_schedule : ℕ → Period
  period_of_schedule n = last_half (done_by stated_end (length (acts s))) n

  -- Each of so many reactions has a span for each entry, and that of each act's entry is from its start to its end.
  pub record AreStatedDates (reactions : ℕ) (rows : List (List Span)) : Type 0 where
    pub count : length rows ≡ reactions
    pub entries : All (λ (row : List Span). length row ≡ entries_of g s) rows
    pub each : (k i : ℕ) (x : Act) → k < reactions → slice_get (acts s) i ≡ Some x
        → span_at rows k (entry_of g.vertices (acts s) i) ≡ span (stated_start k i x) (stated_end k i)

-- The same of given spans: the greatest end in a reaction, in all, and the last half of them.
abbrev pub end_of_span : Span → ℕ
end_of_span w = w.end

-- The date at which all of a reaction with these spans is done, and 0 if there are none.
abbrev pub row_end : List Span → ℕ
row_end row = greatest (map end_of_span row)

-- The date at which all of these reactions are done, and 0 if there are none.
abbrev pub all_done : List (List Span) → ℕ
all_done rows = greatest (map row_end rows)

-- The period of these reactions: how many ticks after the others the last half of them is done, and
-- how many reactions that half has.
abbrev pub period_in : List (List Span) → Period
period_in rows = last_half (λ m. all_done (take m rows)) (length rows)

-- Where all acts run on one operator, a reaction takes as long as they do together: so many of them, in the last half
-- of n reactions, that many times as long.
abbrev pub OneOperatorHasItsLengthAsPeriod : Type 0
OneOperatorHasItsLengthAsPeriod = (g : Graph) (a : Architecture) (s : Schedule) (o n : ℕ) → 1 ≤ a.depth
    → ((i : ℕ) (x : Act) → slice_get (acts s) i ≡ Some x → IsTrue (is_on o x))
    → (period_of_schedule g a s n).ticks ≡ (n - n / 2) * sum_by stated (acts s)
