use Rattle.std.proofs.Common.{◌≡◌, map, take}
use Rattle.self_timed.specs.Latency.{ticks_in}
use Rattle.self_timed.proofs.latency.latency_between.Given as goal
use Rattle.syn_base.specs.Numbers.{greatest}

-- the greatest of the reactions before
abbrev pub invariant-loop-reaction : goal.invariant-loop-reaction
invariant-loop-reaction l = l.ticks ≡ greatest (map (ticks_in l.sensor l.actuator) (take l.reaction l.dates))
