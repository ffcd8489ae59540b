use Rattle.std.proofs.Common.{◌≡◌, ◌++◌, drop}
use Rattle.trace_events.specs.Events.{text_of}
use Rattle.trace_events.specs.Trace.{medium_lanes}
use Rattle.trace_events.proofs.frame.append_medium_lanes.Given as goal

-- what is there, with the media that are left, is the whole
abbrev pub invariant-loop-number : goal.invariant-loop-number
invariant-loop-number l =
    l.out.items ++ text_of (medium_lanes l.number (drop l.number l.media))
    ≡ l.fn.out.items ++ text_of (medium_lanes 0 l.media)
