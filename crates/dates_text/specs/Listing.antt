-- The text of the dates of reactions.
use Rattle.std.specs.Prelude.{ℕ, zero, suc, List, [], ◌∷◌, ◌++◌, length, map, replicate, codes}
use Rattle.std.specs.Fmt.{decimal}
use Rattle.syn_base.specs.Bytes.{Bytes}
use Rattle.timing_chart.specs.Chart.{Line, text_of}
use Rattle.self_timed.specs.Graph.{Graph, operation_name}
use Rattle.self_timed.specs.Archi.{Architecture, operator_name, medium_name}
use Rattle.self_timed.specs.declared.Schedule.{Schedule}
use Rattle.self_timed.specs.Acts.{Act, carry, run, acts}
use Rattle.self_timed.specs.declared.dates.Span.{Span}
use Rattle.self_timed.specs.Running.{span}
use Rattle.self_timed.specs.Told.{start_at, end_at}
use Rattle.syn_base.specs.Numbers.{greatest}

-- an act in a reaction, and from when to when it lasts
pub record Dated : Type 0 where
  pub reaction : ℕ
  pub when : Span
  pub act : Act

-- Act x in reaction k, with its span w there.
abbrev pub dated : ℕ → Span → Act → Dated
dated k w x = record { reaction = k; when = w; act = x }

-- The date at which the act ends in its reaction.
abbrev pub end_in_date : Dated → ℕ
end_in_date d = d.when.end

-- the greatest end, 0 where there is none
abbrev pub latest_end : List Dated → ℕ
latest_end ds = greatest (map end_in_date ds)

-- Act i of reaction k, which is x, takes `when k i x`.
module _ (when : ℕ → ℕ → Act → Span) where
  -- These acts with their dates in reaction k, of which the first has number i.
  abbrev pub dated_from : ℕ → ℕ → List Act → List Dated
  dated_from k i [] = []
  dated_from k i (x ∷ xs) = dated k (when k i x) x ∷ dated_from k (suc i) xs

  -- all acts in this many reactions, reaction by reaction
  abbrev pub dated_in : ℕ → List Act → List Dated
  dated_in zero xs = []
  dated_in (suc k) xs = dated_in k xs ++ dated_from k 0 xs

module _ (g : Graph) (a : Architecture) where
  -- K on MEDIUM START END OPERATION PORT FROM TO, and K op START END OPERATION
  abbrev pub act_line : ℕ → Span → Act → Line
  act_line k w (carry t) =
      decimal k ∷ codes "on" ∷ medium_name a.media t.medium ∷ decimal w.start ∷ decimal w.end
      ∷ operation_name g.vertices t.source.vertex ∷ decimal t.source.port
      ∷ operator_name a.operators t.from ∷ operator_name a.operators t.to ∷ []
  act_line k w (run d) =
      decimal k ∷ codes "op" ∷ decimal w.start ∷ decimal w.end ∷ operation_name g.vertices d.op ∷ []

  -- The line of an act in its reaction, word by word.
  abbrev pub dated_line : Dated → Line
  dated_line d = act_line d.reaction d.when d.act

  -- a line for each, and the latest end
  abbrev pub dated_lines : List Dated → List Line
  dated_lines ds = map dated_line ds ++ (codes "latest" ∷ decimal (latest_end ds) ∷ []) ∷ []

  -- The text of these acts with their dates: a line for each, in their order, and a last line with
  -- their latest end.
  abbrev pub dated_text : List Dated → Bytes
  dated_text ds = text_of (dated_lines ds)

  -- the dates of reactions of a schedule, in each of which its operations, and then its transfers, last these ticks
  abbrev pub all_dates : Schedule → List (List ℕ) → List Dated
  all_dates s ticks =
      dated_in (λ k i x. span (start_at a.depth g s ticks k i x) (end_at a.depth g s ticks k i)) (length ticks) (acts s)

  -- The text of the dates of n reactions of a schedule, if in each reaction its operations, by
  -- number, and then its transfers, in their order, last these ticks.
  abbrev pub dates_text : Schedule → List ℕ → ℕ → Bytes
  dates_text s ticks n = dated_text (all_dates s (replicate n ticks))
