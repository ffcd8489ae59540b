use Rattle.std.proofs.Common.{◌≡◌, ◌++◌, drop, map}
use Rattle.self_timed.specs.Acts.{carry}
use Rattle.trace_events.specs.Printed.{charted}
use Rattle.trace_events.proofs.chart.append_transfers.Given as goal

-- what is there, with the transfers that are left, is the whole
abbrev pub invariant-loop-transfer : goal.invariant-loop-transfer
invariant-loop-transfer l =
    l.out.items ++ charted l.traced.vertices.now l.traced.operators.now l.traced.decisions.now (map carry (drop l.transfer-index l.transfers))
    ≡ l.fn.out.items ++ charted l.traced.vertices.now l.traced.operators.now l.traced.decisions.now (map carry l.transfers)
