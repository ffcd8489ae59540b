use Rattle.std.proofs.Common.{◌≡◌, max, drop, map}
use Rattle.sequence_build_laws.specs.Acts.{carry}
use Rattle.sequence_build.specs.Plain.{numbering}
use Rattle.sequence_build.specs.Counted.{longest}
use Rattle.sequence_build.proofs.counted.longest_carried.Given as goal

abbrev pub invariant-loop-transfer : goal.invariant-loop-transfer
invariant-loop-transfer l = max l.longest (longest l.bare (numbering l.site) l.medium (map carry (drop l.transfer-index l.transfers)))
    ≡ longest l.bare (numbering l.site) l.medium (map carry l.transfers)
