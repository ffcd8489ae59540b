use Rattle.std.proofs.Common.{◌≡◌, length, map}
use Rattle.std.specs.List.{range_with_len}
use Rattle.self_timed.specs.Table.{entry_in}
use Rattle.lower_bound.specs.Bound.{work_only}
use Rattle.lower_bound.proofs.work.greatest_work.Given as goal
use Rattle.syn_base.specs.Numbers.{greatest}

-- the greatest of the operators before
abbrev pub invariant-loop-operator : goal.invariant-loop-operator
invariant-loop-operator l = l.greatest ≡ greatest (map (work_only l.durations.operators (entry_in l.durations) (length l.durations.rows)) (range_with_len 0 l.operator))
