use Rattle.std.proofs.Common.{◌≡◌, drop}
use Rattle.check_places.specs.First.{first_from}
use Rattle.check_places.specs.Transfers.{awaited_place}
use Rattle.check_places.proofs.transfers.awaited_place.Given as goal

-- what is left gives the first
abbrev pub invariant-loop-sequence : goal.invariant-loop-sequence
invariant-loop-sequence l = first_from (awaited_place l.program l.moved.medium l.moved.number l.moved.ends) l.sequence
    (drop l.sequence l.program.seqs) ≡ first_from (awaited_place l.program l.moved.medium l.moved.number l.moved.ends) 0 l.program.seqs
