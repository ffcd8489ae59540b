use Rattle.std.proofs.Common.{◌≡◌, drop}
use Rattle.actual_durations.specs.Actual.{slower_operation}
use Rattle.actual_durations.proofs.walk.check_operations.Given as goal

-- the first fault is among the operations that are left
abbrev pub invariant-loop-op : goal.invariant-loop-op
invariant-loop-op l = slower_operation l.stated l.actual.lines l.op (drop l.op l.vertices) (drop l.op l.operators) ≡ slower_operation l.stated l.actual.lines 0 l.vertices l.operators
