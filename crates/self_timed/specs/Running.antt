-- One reaction, step by step.
use Rattle.std.specs.Prelude.{
  ◌≡◌,
  ℕ,
  ◌+◌,
  ◌-◌,
  ◌^◌,
  ◌<◌,
  nat_le,
  List,
  [],
  ◌∷◌,
  length,
  map,
  max,
  replicate,
  cond,
  All,
  slice_index_or,
  slice_set,
}
use Rattle.self_timed.specs.declared.dates.Span.{Span}
use Rattle.self_timed.specs.declared.layout.Step.{Step}
use Rattle.self_timed.specs.declared.layout.Plan.{Plan}
use Rattle.self_timed.specs.declared.line.Ends.{Ends}
use Rattle.self_timed.specs.Lines.{IsLine, last_in, noted}
use Rattle.syn_base.specs.Numbers.{greatest}

-- The span from this start to this end, both dates in ticks.
abbrev pub span : ℕ → ℕ → Span
span start end = record { start = start; end = end }

-- The span from 0 to 0, for an entry that has no dates.
abbrev pub no_span : Span
no_span = span 0 0

-- The span of entry e in the row of a reaction, and the span from 0 to 0 if the row has none.
abbrev pub span_in : List Span → ℕ → Span
span_in row e = slice_index_or row e no_span

abbrev pub end_in : List Span → ℕ → ℕ
end_in row e = (span_in row e).end

abbrev pub latest_in : List Span → List ℕ → ℕ
latest_in row entries = greatest (map (end_in row) entries)

-- an act that has ended at this date has read what these entries made
abbrev pub free : List ℕ → ℕ → List ℕ → List ℕ
free [] date freed = freed
free (e ∷ es) date freed = free es date (slice_set freed e (max (slice_index_or freed e 0) date))

abbrev pub free_all : List Span → List Step → List ℕ → List ℕ
free_all row [] freed = freed
free_all row (st ∷ sts) freed = free_all row sts (free st.sources (end_in row st.entry) freed)

-- for each entry the greatest end of the acts that read what it made `depth` reactions ago
abbrev pub freed_in : Plan → ℕ → List (List Span) → List ℕ
freed_in p depth past =
    cond (nat_le depth (length past))
    (free_all (slice_index_or past (length past - depth) []) p.steps.items (replicate p.entries 0))
    (replicate p.entries 0)

-- the last ends of lines, and the dates so far
pub record Running : Type 0 where
  pub ends : Ends
  pub row : List Span

abbrev pub running : Ends → List Span → Running
running ends row = record { ends = ends; row = row }

abbrev pub at_start : Plan → Ends → Running
at_start p ends = running ends (replicate p.entries no_span)

module _ (freed ticks : List ℕ) where
  abbrev pub start_in : Step → Running → ℕ
  start_in st r = max (max (last_in r.ends st.line) (latest_in r.row st.sources)) (slice_index_or freed st.entry 0)

  abbrev pub ended_in : Step → Running → ℕ
  ended_in st r = start_in st r + slice_index_or ticks st.entry 0

  abbrev pub after_step : Step → Running → Running
  after_step st r =
      running (noted r.ends st.line (ended_in st r)) (slice_set r.row st.entry (span (start_in st r) (ended_in st r)))

  abbrev pub after_steps : List Step → Running → Running
  after_steps [] r = r
  after_steps (st ∷ sts) r = after_steps sts (after_step st r)

  -- no date is too large
  abbrev pub FitSteps : List Step → Running → Type 0
  FitSteps [] r = Unit {0}
  FitSteps (st ∷ sts) r = (ended_in st r < 2 ^ 64) × FitSteps sts (after_step st r)

-- One reaction of the plan, from the last ends of lines, where these reactions are past.
module _ (p : Plan) (depth : ℕ) (past : List (List Span)) (ticks : List ℕ) (ends : Ends) where
  abbrev pub reaction_after : Running
  reaction_after = after_steps (freed_in p depth past) ticks p.steps.items (at_start p ends)

  abbrev pub FitsReaction : Type 0
  FitsReaction = FitSteps (freed_in p depth past) ticks p.steps.items (at_start p ends)

-- entries and lines are there
pub record IsSized (entries : ℕ) (step : Step) : Type 0 where
  pub entry : step.entry < entries
  pub line : IsLine step.line
  pub sources : All (λ e. e < entries) step.sources

abbrev pub AreSized : ℕ → List Step → Type 0
AreSized entries steps = All (IsSized entries) steps

abbrev pub IsLong : ℕ → List Span → Type 0
IsLong entries row = length row ≡ entries
