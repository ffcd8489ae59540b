use Rattle.std.proofs.Common.{◌≡◌, ◌++◌, drop, map}
use Rattle.self_timed.specs.Acts.{carry}
use Rattle.self_timed.specs.Entries.{stated}
use Rattle.schedule_rate.proofs.rate.add_transfers.Given as goal

abbrev pub invariant-loop-transfer : goal.invariant-loop-transfer
invariant-loop-transfer l = l.long.items ++ map stated (map carry (drop l.transfer-index l.transfers)) ≡ l.initial.long.items ++ map stated (map carry l.transfers)
