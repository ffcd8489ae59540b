use Rattle.std.proofs.Common.{◌≡◌, ◌++◌, drop}
use Rattle.trace_events.specs.Events.{text_of}
use Rattle.trace_events.specs.Trace.{operator_lanes}
use Rattle.trace_events.proofs.frame.append_operator_lanes.Given as goal

-- what is there, with the operators that are left, is the whole
abbrev pub invariant-loop-number : goal.invariant-loop-number
invariant-loop-number l =
    l.out.items ++ text_of (operator_lanes l.number (drop l.number l.operators))
    ≡ l.fn.out.items ++ text_of (operator_lanes 0 l.operators)
