use Rattle.std.proofs.Common.{◌≡◌, ◌++◌, map}
use Rattle.std.specs.Prelude.{filter}
use Rattle.std.specs.List.{range_with_len}
use Rattle.self_timed.specs.Latency.{is_reached, latency}
use Rattle.self_timed.proofs.latency.append_reached.Given as goal

-- those of the operations before were appended
abbrev pub invariant-loop-op : goal.invariant-loop-op
invariant-loop-op l = l.list.items ≡ l.fn.list.items ++ map (latency l.dates l.sensor) (filter (is_reached l.vertices l.sensor) (range_with_len 0 l.op))
