use Rattle.std.proofs.Common.{◌≡◌, ◌++◌, drop}
use Rattle.self_timed.specs.Acts.{acts_of}
use Rattle.trace_events.specs.Printed.{charted}
use Rattle.trace_events.proofs.chart.append_decisions.Given as goal

-- what is there, with the decisions that are left, is the whole
abbrev pub invariant-loop-decision : goal.invariant-loop-decision
invariant-loop-decision l =
    l.out.items ++ charted l.traced.vertices.now l.traced.operators.now l.traced.decisions.now (acts_of (drop l.decision-index l.traced.decisions.now))
    ≡ l.fn.out.items ++ charted l.traced.vertices.now l.traced.operators.now l.traced.decisions.now (acts_of l.traced.decisions.now)
