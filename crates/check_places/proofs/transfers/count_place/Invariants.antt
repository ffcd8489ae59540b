use Rattle.std.proofs.Common.{◌≡◌, drop}
use Rattle.check_places.specs.First.{first_from}
use Rattle.check_places.specs.Transfers.{count_place}
use Rattle.check_places.proofs.transfers.count_place.Given as goal

-- what is left gives the first
abbrev pub invariant-loop-sequence : goal.invariant-loop-sequence
invariant-loop-sequence l = first_from (count_place l.program) l.sequence (drop l.sequence l.program.seqs) ≡ first_from (count_place l.program) 0 l.program.seqs
