-- The trace of the dates of reactions.
use Rattle.std.specs.Prelude.{ℕ, List, ◌++◌}
use Rattle.std.specs.List.{flat_map}
use Rattle.syn_base.specs.Bytes.{Bytes}
use Rattle.self_timed.specs.declared.Vertex.{Vertex}
use Rattle.self_timed.specs.Graph.{Graph}
use Rattle.self_timed.specs.Archi.{Architecture}
use Rattle.self_timed.specs.declared.Decision.{Decision}
use Rattle.self_timed.specs.declared.Schedule.{Schedule}
use Rattle.self_timed.specs.declared.dates.Span.{Span}
use Rattle.dates_text.specs.Listing.{Dated, all_dates}
use Rattle.trace_events.specs.declared.event.Moment.{Moment}
use Rattle.trace_events.specs.Events.{Event, file_of, text_of}
use Rattle.trace_events.specs.Trace.{act_events, lanes}

-- from when to when an act lasts in a reaction
abbrev pub moment_in : ℕ → Span → Moment
moment_in k w = record { reaction = k; start = w.start; end = w.end }

-- The reaction of an act with its dates there, as a moment of the trace.
abbrev pub moment_of : Dated → Moment
moment_of d = moment_in d.reaction d.when

-- the events of acts when these dates say
module _ (vertices : List Vertex) (operators : List Bytes) (ds : List Decision) where
  -- The events of an act in its reaction, at its dates there.
  abbrev pub events_of : Dated → List Event
  events_of d = act_events vertices operators ds (moment_of d) d.act

  -- as they are written
  abbrev pub told : List Dated → Bytes
  told xs = flat_map (λ d. text_of (events_of d)) xs

-- The events of all these acts with their dates, in their order.
abbrev pub dates_events : Graph → Architecture → Schedule → List Dated → List Event
dates_events g a s xs = flat_map (events_of g.vertices a.operators s.decisions) xs

-- the trace of these dates
abbrev pub trace_of : Graph → Architecture → Schedule → List Dated → Bytes
trace_of g a s xs = file_of (lanes a ++ dates_events g a s xs)

-- that of all dates of a schedule's reactions, whose entries last these ticks
abbrev pub dates_trace : Graph → Architecture → Schedule → List (List ℕ) → Bytes
dates_trace g a s ticks = trace_of g a s (all_dates g a s ticks)
