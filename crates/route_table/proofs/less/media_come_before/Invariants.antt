use Rattle.std.proofs.Common.{◌≡◌, drop}
use Rattle.route_table.specs.Least.{comes_before, media_of}
use Rattle.route_table.proofs.less.media_come_before.Given as goal

-- what is left decides
abbrev pub invariant-loop-i : goal.invariant-loop-i
invariant-loop-i l = comes_before (media_of (drop l.i l.hops)) (media_of (drop l.i l.others)) ≡ comes_before (media_of l.hops) (media_of l.others)
