use Rattle.std.proofs.Common.{◌≡◌, ◌*◌, ◌≤◌}
use Rattle.std.specs.Prelude.{sum_by}
use Rattle.std.specs.List.{range_with_len}
use Rattle.self_timed.specs.Table.{entry_in}
use Rattle.lower_bound.specs.Bound.{least}
use Rattle.lower_bound.proofs.work.all_work.Given as goal

-- the operations before are counted
abbrev pub invariant-loop-op : goal.invariant-loop-op
invariant-loop-op l = record {
  sum : l.work ≡ sum_by (least l.durations.operators (entry_in l.durations)) (range_with_len 0 l.op);
  low : l.work ≤ 1000000000 * l.op;
}
