use Rattle.std.proofs.Common.{◌≡◌, ◌*◌, ◌≤◌}
use Rattle.std.specs.Prelude.{filter, sum_by}
use Rattle.std.specs.List.{range_with_len}
use Rattle.self_timed.specs.Table.{entry_in}
use Rattle.lower_bound.specs.Bound.{least, stands_only}
use Rattle.lower_bound.proofs.work.work_only.Given as goal

-- those of the operations before that stand here alone are counted
abbrev pub invariant-loop-op : goal.invariant-loop-op
invariant-loop-op l = record {
  sum : l.work ≡ sum_by (least l.durations.operators (entry_in l.durations)) (filter (stands_only l.durations.operators (entry_in l.durations) l.operator) (range_with_len 0 l.op));
  low : l.work ≤ 1000000000 * l.op;
}
