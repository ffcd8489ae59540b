use Rattle.std.proofs.Common.{◌≡◌, length, map}
use Rattle.std.specs.List.{range_with_len}
use Rattle.self_timed.specs.Table.{entry_in}
use Rattle.lower_bound.specs.Numbers.{alone}
use Rattle.lower_bound.proofs.alone.all_alone.Given as goal

-- the operators before
abbrev pub invariant-loop-operator : goal.invariant-loop-operator
invariant-loop-operator l = l.list.items ≡ map (alone (entry_in l.durations) (length l.durations.rows) l.beside) (range_with_len 0 l.operator)
