use Rattle.std.proofs.Common.{◌≡◌, [], map}
use Rattle.multi_period.specs.Marks.{mark_at}
use Rattle.multi_period.proofs.table.no_marks.Given as goal
use Rattle.syn_base.specs.Numbers.{numbers_below}

abbrev pub invariant-loop-place : goal.invariant-loop-place
invariant-loop-place l = l.table.items ≡ map (mark_at []) (numbers_below l.place)
