use Rattle.std.proofs.Common.{◌≡◌, ◌++◌, drop, map}
use Rattle.self_timed.specs.Stated.{carry_ticks}
use Rattle.self_timed.proofs.ticks.append_carried.Given as goal

-- the ticks so far, followed by those of what is left, are all
abbrev pub invariant-loop-transfer : goal.invariant-loop-transfer
invariant-loop-transfer l = l.ticks.items ++ map carry_ticks (drop l.transfer-index l.transfers) ≡ l.fn.ticks.items ++ map carry_ticks l.transfers
