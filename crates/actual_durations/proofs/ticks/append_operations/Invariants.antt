use Rattle.std.proofs.Common.{◌≡◌, ◌++◌, drop}
use Rattle.actual_durations.specs.Actual.{operations_ticks}
use Rattle.actual_durations.proofs.ticks.append_operations.Given as goal

-- what is there, with the ticks of the operations that are left, is the whole
abbrev pub invariant-loop-op : goal.invariant-loop-op
invariant-loop-op l =
    l.ticks.items ++ operations_ticks l.actual.lines (drop l.op l.vertices) (drop l.op l.operators) ≡ l.fn.ticks.items ++ operations_ticks l.actual.lines l.vertices l.operators
