-- The text of dates entry by entry, as it is printed.
use Rattle.std.specs.Prelude.{◌≡◌, ◌≤◌, ◌<◌, ℕ, ◌+◌, zero, suc, List, [], ◌∷◌, ◌++◌, map, length, All}
use Rattle.syn_base.specs.Bytes.{Bytes}
use Rattle.timing_chart.specs.Chart.{text_of}
use Rattle.self_timed.specs.Graph.{Graph}
use Rattle.self_timed.specs.Archi.{Architecture}
use Rattle.self_timed.specs.declared.Decision.{Decision}
use Rattle.self_timed.specs.declared.Schedule.{Schedule}
use Rattle.self_timed.specs.Acts.{Act, acts}
use Rattle.self_timed.specs.Entries.{entry_of}
use Rattle.self_timed.specs.declared.dates.Span.{Span}
use Rattle.self_timed.specs.Running.{span_in}
use Rattle.self_timed.specs.Laid.{entry_after, next_after}
use Rattle.self_timed.specs.Told.{entries_of, reaction_at, span_at}
use Rattle.dates_text.specs.Listing.{Dated, dated, dated_line, latest_end}

-- the span of act i of reaction k among those of the entries
abbrev pub entry_span : Graph → Schedule → List (List Span) → ℕ → ℕ → Act → Span
entry_span g s reactions k i x = span_at reactions k (entry_of g.vertices (acts s) i)

-- acts of reaction k, of which the next transfer has this entry
module _ (k : ℕ) (row : List Span) where
  abbrev pub dated_by : ℕ → List Act → List Dated
  dated_by next [] = []
  dated_by next (x ∷ xs) = dated k (span_in row (entry_after next x)) x ∷ dated_by (next_after next x) xs

-- this many reactions of acts, where this many operations stand before the transfers
abbrev pub dates_up_to : List (List Span) → ℕ → List Act → ℕ → List Dated
dates_up_to reactions operations xs zero = []
dates_up_to reactions operations xs (suc k) =
    dates_up_to reactions operations xs k ++ dated_by k (reaction_at reactions k) operations xs

abbrev pub lines_text : Graph → Architecture → List Dated → Bytes
lines_text g a ds = text_of (map (dated_line g a) ds)

-- the lines of these were appended, and their latest end is answered
pub record Appends (graph : Graph) (archi : Architecture) (old new : Bytes) (end : ℕ) (ds : List Dated) : Type 0 where
  pub text : new ≡ old ++ lines_text graph archi ds
  pub latest : end ≡ latest_end ds

-- the entries of these decisions are among this many, where the next transfer has this one
abbrev pub Fit : ℕ → ℕ → List Decision → Type 0
Fit entries next [] = Unit {0}
Fit entries next (d ∷ ds) =
    (d.op < entries) × (next + length d.transfers ≤ entries) × Fit entries (next + length d.transfers) ds

-- the decisions' entries are among those of each reaction
abbrev pub EachFits : Graph → List Decision → List (List Span) → Type 0
EachFits g ds reactions = (k : ℕ) → k < length reactions → Fit (length (reaction_at reactions k)) (length g.vertices) ds

-- each reaction has a span for each entry
abbrev pub HaveSpans : Graph → Schedule → List (List Span) → Type 0
HaveSpans g s reactions = All (λ (row : List Span). length row ≡ entries_of g s) reactions
