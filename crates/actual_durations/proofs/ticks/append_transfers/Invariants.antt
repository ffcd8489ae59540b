use Rattle.std.proofs.Common.{◌≡◌, ◌++◌, drop, map}
use Rattle.actual_durations.specs.Actual.{transfer_ticks}
use Rattle.actual_durations.proofs.ticks.append_transfers.Given as goal
use Rattle.schedule.specs.Acts.{transfers_of}

-- what is there, with the ticks of the transfers that are left, is the whole
abbrev pub invariant-loop-decision : goal.invariant-loop-decision
invariant-loop-decision l =
    l.ticks.items ++ map (transfer_ticks l.vertices l.media) (transfers_of (drop l.decision-index l.decisions)) ≡ l.fn.ticks.items ++ map (transfer_ticks l.vertices l.media) (transfers_of l.decisions)
