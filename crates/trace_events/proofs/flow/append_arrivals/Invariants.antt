use Rattle.std.proofs.Common.{◌≡◌, ◌++◌, drop}
use Rattle.trace_events.specs.Printed.{arrived}
use Rattle.trace_events.proofs.flow.append_arrivals.Given as goal

-- what is there, with the sources that are left, is the whole
abbrev pub invariant-loop-source : goal.invariant-loop-source
invariant-loop-source l =
    l.out.items ++ arrived l.decisions l.reader (drop l.source-index l.sources)
    ≡ l.fn.out.items ++ arrived l.decisions l.reader l.sources
