use Rattle.std.proofs.Common.{◌≡◌, ◌*◌, ◌≤◌, true}
use Rattle.std.specs.Prelude.{is_some, sum_by, unwrap_or}
use Rattle.std.specs.List.{list_all, range_with_len}
use Rattle.self_timed.specs.Table.{entry_in}
use Rattle.lower_bound.proofs.alone.time_alone.Given as goal

-- the operations before may all stand here, and are counted
abbrev pub invariant-loop-op : goal.invariant-loop-op
invariant-loop-op l = record {
  all : list_all (λ v. is_some (entry_in l.durations v l.operator)) (range_with_len 0 l.op) ≡ true;
  sum : l.time ≡ sum_by (λ v. unwrap_or (entry_in l.durations v l.operator) 0) (range_with_len 0 l.op);
  low : l.time ≤ 1000000000 * l.op;
}
