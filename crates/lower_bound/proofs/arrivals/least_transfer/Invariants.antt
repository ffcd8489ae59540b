use Rattle.std.proofs.Common.{◌≡◌, drop, map}
use Rattle.self_timed.specs.Table.{least_of}
use Rattle.lower_bound.specs.Bound.{brought_in}
use Rattle.lower_bound.proofs.arrivals.least_transfer.Given as goal
use Rattle.syn_base.specs.Numbers.{lesser}

-- the least so far, with the media that are left, is that of all
abbrev pub invariant-loop-medium : goal.invariant-loop-medium
invariant-loop-medium l = lesser l.least (least_of (map (brought_in l.operator l.len) (drop l.medium-index l.media))) ≡ least_of (map (brought_in l.operator l.len) l.media)
