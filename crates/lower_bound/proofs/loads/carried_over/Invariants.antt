use Rattle.std.proofs.Common.{◌≡◌, ◌+◌, drop, map}
use Rattle.self_timed.specs.Acts.{carry, is_over}
use Rattle.lower_bound.specs.Numbers.{busy}
use Rattle.lower_bound.proofs.loads.carried_over.Given as goal

-- the time so far, with that of the transfers that are left, is the whole
abbrev pub invariant-loop-transfer : goal.invariant-loop-transfer
invariant-loop-transfer l = l.busy + busy (is_over l.medium) (map carry (drop l.transfer-index l.transfers)) ≡ busy (is_over l.medium) (map carry l.transfers)
