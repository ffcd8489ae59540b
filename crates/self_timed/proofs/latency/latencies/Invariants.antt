use Rattle.std.proofs.Common.{◌≡◌}
use Rattle.std.specs.Prelude.{flat_map}
use Rattle.std.specs.List.{range_with_len}
use Rattle.self_timed.specs.Latency.{latencies_from}
use Rattle.self_timed.proofs.latency.latencies.Given as goal

-- those from the operations before
abbrev pub invariant-loop-op : goal.invariant-loop-op
invariant-loop-op l = l.list.items ≡ flat_map (latencies_from l.flat.vertices l.dates) (range_with_len 0 l.op)
