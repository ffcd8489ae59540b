use Rattle.std.proofs.Common.{◌≡◌, drop, map}
use Rattle.multi_period.specs.Marks.{mark_at}
use Rattle.multi_period.proofs.table.mark_table.Given as goal
use Rattle.syn_base.specs.Numbers.{numbers_below}

abbrev pub invariant-loop-left : goal.invariant-loop-left
invariant-loop-left l = l.table.items ≡ map (mark_at (drop l.left l.marks)) (numbers_below l.count)
