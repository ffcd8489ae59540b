-- The latencies of a schedule whose acts last as it states.
use Rattle.std.specs.Prelude.{ℕ, List, length, map, slice_get}
use Rattle.std.specs.List.{position_or_len, range_with_len}
use Rattle.sequence_build_laws.specs.Graph.{Graph}
use Rattle.sequence_build_laws.specs.Archi.{Architecture}
use Rattle.sequence_build_laws.specs.declared.Schedule.{Schedule}
use Rattle.sequence_build_laws.specs.Acts.{acts, runs}
use Rattle.self_timed.specs.Dates.{with_act}
use Rattle.self_timed.specs.declared.dates.Span.{Span}
use Rattle.self_timed.specs.Running.{span}
use Rattle.self_timed.specs.Period.{stated_end, stated_start}
use Rattle.self_timed.specs.declared.latency.Latency.{Latency}
use Rattle.self_timed.specs.Latency.{latencies}

module _ (g : Graph) (a : Architecture) (s : Schedule) where
  -- from the start of act i in reaction k to its end
  abbrev pub act_span : ℕ → ℕ → Span
  act_span k i = span (with_act (slice_get (acts s) i) (stated_start g a s k i)) (stated_end g a s k i)

  -- the act that runs operation v, by number
  abbrev pub run_of : ℕ → ℕ
  run_of v = position_or_len (runs v) (acts s)

  -- of all operations in reaction k
  abbrev pub operation_spans : ℕ → List Span
  operation_spans k = map (λ v. act_span k (run_of v)) (range_with_len 0 (length g.vertices))

  -- in each of so many reactions
  abbrev pub stated_spans : ℕ → List (List Span)
  stated_spans n = map operation_spans (range_with_len 0 n)

  -- the latencies over so many reactions
  abbrev pub latencies_of_schedule : ℕ → List Latency
  latencies_of_schedule n = latencies g.vertices (stated_spans n)
