use Rattle.std.proofs.Common.{◌≡◌, map, take}
use Rattle.durations.specs.Table.{row}
use Rattle.durations.proofs.rows.rows.Given as goal

abbrev pub invariant-loop-op : goal.invariant-loop-op
invariant-loop-op l = l.rows.items ≡ map (row l.given.operators l.given.lines) (take l.op l.vertices)
