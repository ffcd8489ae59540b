use Rattle.std.proofs.Common.{◌≡◌, ◌++◌, drop, map}
use Rattle.trace_events.specs.Printed.{arrived}
use Rattle.trace_events.proofs.flow.append_guard_arrivals.Given as goal

-- what is there, with the guards that are left, is the whole
abbrev pub invariant-loop-guard : goal.invariant-loop-guard
invariant-loop-guard l =
    l.out.items ++ arrived l.decisions l.reader (map (λ g. g.source) (drop l.guard-index l.guards))
    ≡ l.fn.out.items ++ arrived l.decisions l.reader (map (λ g. g.source) l.guards)
