use Rattle.std.proofs.Common.{◌≡◌, drop}
use Rattle.check_places.specs.First.{first_from}
use Rattle.check_places.specs.Names.{name_place}
use Rattle.check_places.proofs.names.list_place.Given as goal

-- what is left gives the first
abbrev pub invariant-loop-at : goal.invariant-loop-at
invariant-loop-at l = first_from (name_place l.program l.known.operations l.known.operators l.part l.sequence) l.at (drop l.at l.list)
    ≡ first_from (name_place l.program l.known.operations l.known.operators l.part l.sequence) 0 l.list
