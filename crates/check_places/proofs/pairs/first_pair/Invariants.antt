use Rattle.std.proofs.Common.{◌≡◌, drop}
use Rattle.program_tables.specs.declared.readings.Reading.{Reading}
use Rattle.check_places.specs.First.{first_from}
use Rattle.check_places.specs.Pairs.{pair_place}
use Rattle.check_places.proofs.ByReading.{reader_of}
use Rattle.check_places.proofs.pairs.first_pair.Given as goal

-- what is left gives the first
abbrev pub invariant-loop-pair : goal.invariant-loop-pair
invariant-loop-pair l =
    first_from (λ q (r : Reading). pair_place l.program q (reader_of r)) l.pair (drop l.pair l.found)
    ≡ first_from (λ q (r : Reading). pair_place l.program q (reader_of r)) 0 l.found
