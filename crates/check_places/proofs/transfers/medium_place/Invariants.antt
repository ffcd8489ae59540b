use Rattle.std.proofs.Common.{◌≡◌, drop}
use Rattle.check_places.specs.First.{first_from}
use Rattle.check_places.specs.Transfers.{medium_place}
use Rattle.check_places.proofs.transfers.medium_place.Given as goal

-- what is left gives the first
abbrev pub invariant-loop-sequence : goal.invariant-loop-sequence
invariant-loop-sequence l = first_from (medium_place l.media) l.sequence (drop l.sequence l.program.seqs) ≡ first_from (medium_place l.media) 0 l.program.seqs
