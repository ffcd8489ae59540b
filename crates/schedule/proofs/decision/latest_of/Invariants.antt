use Rattle.std.proofs.Common.{◌≡◌, drop, map, max}
use Rattle.schedule.specs.Acts.{carry, latest}
use Rattle.schedule.proofs.decision.latest_of.Given as goal

-- the latest end so far, with that of the transfers that are left, is that of all
abbrev pub invariant-loop-transfer : goal.invariant-loop-transfer
invariant-loop-transfer l = max l.latest (latest (map carry (drop l.transfer-index l.transfers))) ≡ latest (map carry l.transfers)
