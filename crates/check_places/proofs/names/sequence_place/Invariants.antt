use Rattle.std.proofs.Common.{◌≡◌, ◌≤◌, drop, length}
use Rattle.check_places.specs.Names.{sequence_place}
use Rattle.check_places.proofs.names.sequence_place.Given as goal

-- both lists were alike so far
abbrev pub invariant-loop-sequence : goal.invariant-loop-sequence
invariant-loop-sequence l = (sequence_place l.sequence (drop l.sequence l.codes) (drop l.sequence l.seqs) ≡ sequence_place 0 l.codes l.seqs) × (l.sequence ≤ length l.seqs)
