use Rattle.std.proofs.Common.{◌≡◌, drop}
use Rattle.route_table.specs.Least.{comes_before, operators_of}
use Rattle.route_table.proofs.less.operators_come_before.Given as goal

-- what is left decides
abbrev pub invariant-loop-i : goal.invariant-loop-i
invariant-loop-i l = comes_before (operators_of (drop l.i l.hops)) (operators_of (drop l.i l.others)) ≡ comes_before (operators_of l.hops) (operators_of l.others)
