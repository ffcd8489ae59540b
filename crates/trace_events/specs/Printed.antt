-- The events of a trace, as they are written part by part.
use Rattle.std.specs.Prelude.{List}
use Rattle.std.specs.List.{flat_map}
use Rattle.syn_base.specs.Bytes.{Bytes}
use Rattle.self_timed.specs.declared.Source.{Source}
use Rattle.self_timed.specs.declared.Vertex.{Vertex}
use Rattle.self_timed.specs.declared.Decision.{Decision}
use Rattle.self_timed.specs.Acts.{Act}
use Rattle.trace_events.specs.declared.event.Reader.{Reader}
use Rattle.trace_events.specs.Events.{text_of}
use Rattle.trace_events.specs.Trace.{act_events, arrival, chart_moment}

-- the text of what arrives from these sources
abbrev pub arrived : List Decision → Reader → List Source → Bytes
arrived ds r sources = flat_map (λ s. text_of (arrival ds r s)) sources

-- the text of these acts' events
abbrev pub charted : List Vertex → List Bytes → List Decision → List Act → Bytes
charted vertices operators ds xs =
    flat_map (λ x. text_of (act_events vertices operators ds (chart_moment x) x)) xs
