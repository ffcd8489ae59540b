use Rattle.std.proofs.Common.{◌≡◌, ◌++◌, drop, map}
use Rattle.actual_durations.specs.Actual.{transfer_ticks}
use Rattle.actual_durations.proofs.ticks.append_carried.Given as goal

-- what is there, with the ticks of the transfers that are left, is the whole
abbrev pub invariant-loop-transfer : goal.invariant-loop-transfer
invariant-loop-transfer l =
    l.ticks.items ++ map (transfer_ticks l.vertices l.media) (drop l.transfer-index l.transfers) ≡ l.fn.ticks.items ++ map (transfer_ticks l.vertices l.media) l.transfers
