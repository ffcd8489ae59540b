use Rattle.std.proofs.Common.{◌≡◌, drop}
use Rattle.route_table.specs.Least.{are_equal, media_of}
use Rattle.route_table.proofs.less.are_media_equal.Given as goal

-- what is left decides
abbrev pub invariant-loop-i : goal.invariant-loop-i
invariant-loop-i l = are_equal (media_of (drop l.i l.hops)) (media_of (drop l.i l.others)) ≡ are_equal (media_of l.hops) (media_of l.others)
