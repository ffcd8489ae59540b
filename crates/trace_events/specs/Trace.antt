-- The acts of a schedule as events.
use Rattle.std.specs.Prelude.{ℕ, suc, ◌+◌, Bool, if◌then◌else◌, List, [], ◌∷◌, ◌++◌, slice_get}
use Rattle.std.specs.Fmt.{decimal}
use Rattle.std.specs.List.{flat_map, list_any}
use Rattle.syn_base.specs.Bytes.{Bytes}
use Rattle.self_timed.specs.declared.Source.{Source}
use Rattle.self_timed.specs.declared.Vertex.{Vertex}
use Rattle.self_timed.specs.Graph.{Graph, operation_name}
use Rattle.self_timed.specs.declared.Medium.{Medium}
use Rattle.self_timed.specs.Archi.{Architecture, operator_name}
use Rattle.self_timed.specs.declared.Transfer.{Transfer}
use Rattle.self_timed.specs.declared.Decision.{Decision}
use Rattle.self_timed.specs.declared.Schedule.{Schedule}
use Rattle.self_timed.specs.Acts.{Act, carry, run, acts, start_of, end_of, sources_of, brings}
use Rattle.trace_events.specs.declared.event.Moment.{Moment}
use Rattle.trace_events.specs.declared.event.Reader.{Reader}
use Rattle.trace_events.specs.Events.{Slice, Event, thread, lasts, leaves, arrives, file_of}
use Rattle.trace_events.specs.declared.word.Word.TheVariants as word
use Rattle.trace_events.specs.Words.{word_text}

-- The number of the lane of operator o. Operators have lanes from 1 on, and media, of which the
-- lanes are above those of the sixteen operators that there may be, from 17 on.
abbrev pub operator_lane : ℕ → ℕ
operator_lane o = o + 1

-- The number of the lane of medium m.
abbrev pub medium_lane : ℕ → ℕ
medium_lane m = m + 17

-- The events that name the lanes of operators with these names, of which the first has number o.
abbrev pub operator_lanes : ℕ → List Bytes → List Event
operator_lanes o [] = []
operator_lanes o (name ∷ names) =
    thread (operator_lane o) (word_text word.Operator) name ∷ operator_lanes (suc o) names

-- The events that name the lanes of these media, of which the first has number m.
abbrev pub medium_lanes : ℕ → List Medium → List Event
medium_lanes m [] = []
medium_lanes m (x ∷ xs) =
    thread (medium_lane m) (word_text word.Medium) x.name ∷ medium_lanes (suc m) xs

-- The events that name all lanes of an architecture, those of its operators first.
abbrev pub lanes : Architecture → List Event
lanes a = operator_lanes 0 a.operators ++ medium_lanes 0 a.media

-- some transfer does
abbrev pub is_brought : List Decision → ℕ → Source → Bool
is_brought ds o s = list_any (λ d. list_any (brings o s) d.transfers) ds

-- The number of the lane of an act, which is that of its operator or of its medium.
abbrev pub lane_of : Act → ℕ
lane_of (run d) = operator_lane d.operator
lane_of (carry t) = medium_lane t.medium

-- where it reads: a transfer on the operator from which it carries
abbrev pub operator_of : Act → ℕ
operator_of (run d) = d.operator
operator_of (carry t) = t.from

-- An act as a reader: in the reaction of this moment, at its start, in the lane of the act, and on
-- the operator on which the act reads.
abbrev pub reader_in : Moment → Act → Reader
reader_in m x =
    record { reaction = m.reaction; date = m.start; lane = lane_of x; operator = operator_of x }

-- where the value stands that the transfer brings
abbrev pub bringer_in : Moment → Transfer → Reader
bringer_in m t =
    record { reaction = m.reaction; date = m.start; lane = medium_lane t.medium; operator = t.to }

-- The category of an act in the trace, `operation` or `transfer`.
abbrev pub category_of : Act → Bytes
category_of (run d) = word_text word.Operation
category_of (carry t) = word_text word.Transfer

-- The sources of the values that an act reads.
abbrev pub sources_for : List Vertex → Act → List Source
sources_for vertices (run d) = sources_of (slice_get vertices d.op)
sources_for vertices (carry t) = t.source ∷ []

module _ (vertices : List Vertex) (operators : List Bytes) where
  -- OPERATION, and of a transfer OPERATION.PORT FROM to TO
  abbrev pub act_name : Act → Bytes
  act_name (run d) = operation_name vertices d.op
  act_name (carry t) =
      operation_name vertices t.source.vertex ++ (word_text word.Dot ++
      (decimal t.source.port ++ (word_text word.Blank ++
      (operator_name operators t.from ++ (word_text word.To ++
      operator_name operators t.to)))))

  -- An act as a slice, from the start to the end of this moment.
  abbrev pub slice_of : Moment → Act → Slice
  slice_of m x =
      record { name = act_name x; category = category_of x; lane = lane_of x; moment = m }

-- a value arrives where a transfer has brought it
abbrev pub arrival : List Decision → Reader → Source → List Event
arrival ds r s =
    if is_brought ds r.operator s then arrives (record { source = s; at = r }) ∷ [] else []

-- The events of those of these sources that a transfer brings to the operator of the reader, in the
-- order of the sources.
abbrev pub arrivals : List Decision → Reader → List Source → List Event
arrivals ds r sources = flat_map (arrival ds r) sources

-- a transfer's value leaves
abbrev pub departures : Moment → Act → List Event
departures m (run d) = []
departures m (carry t) = leaves (record { source = t.source; at = bringer_in m t }) ∷ []

-- The operations of a flat graph, the names of operators, and decisions, whose transfers count.
module _ (vertices : List Vertex) (operators : List Bytes) (ds : List Decision) where
  -- The events of an act at a moment, in this order: its slice, the departure of its value if it is
  -- a transfer, and an arrival for each value that it reads and that was carried there.
  abbrev pub act_events : Moment → Act → List Event
  act_events m x =
      lasts (slice_of vertices operators m x) ∷
      (departures m x ++ arrivals ds (reader_in m x) (sources_for vertices x))

-- an act when the chart says, in reaction 0
abbrev pub chart_moment : Act → Moment
chart_moment x = record { reaction = 0; start = start_of x; end = end_of x }

-- The events of all acts of a schedule, in their order, at the dates of the schedule.
abbrev pub chart_events : Graph → Architecture → Schedule → List Event
chart_events g a s =
    flat_map (λ x. act_events g.vertices a.operators s.decisions (chart_moment x) x) (acts s)

-- the trace of a chart
abbrev pub chart_trace : Graph → Architecture → Schedule → Bytes
chart_trace g a s = file_of (lanes a ++ chart_events g a s)
