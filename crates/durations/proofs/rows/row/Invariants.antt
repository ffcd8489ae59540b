use Rattle.std.proofs.Common.{◌≡◌, map}
use Rattle.std.specs.List.{range_with_len}
use Rattle.durations.specs.Table.{entry}
use Rattle.durations.proofs.rows.row.Given as goal

abbrev pub invariant-loop-operator : goal.invariant-loop-operator
invariant-loop-operator l = l.entries.items ≡ map (entry l.given.lines l.vertex) (range_with_len 0 l.operator)
