use Rattle.std.proofs.Common.{◌≡◌, ◌≤◌, length}
use Rattle.std.specs.Prelude.{count_by}
use Rattle.std.specs.List.{range_with_len}
use Rattle.self_timed.specs.Table.{entry_in}
use Rattle.lower_bound.specs.Bound.{may_work}
use Rattle.lower_bound.proofs.work.working_operators.Given as goal

-- the operators before are counted
abbrev pub invariant-loop-operator : goal.invariant-loop-operator
invariant-loop-operator l = record {
  count : l.count ≡ count_by (may_work l.durations.operators (entry_in l.durations) (length l.durations.rows)) (range_with_len 0 l.operator);
  low : l.count ≤ l.operator;
}
