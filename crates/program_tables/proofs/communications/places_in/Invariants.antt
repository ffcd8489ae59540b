use Rattle.std.proofs.Common.{◌≡◌, ◌++◌, drop}
use Rattle.program_tables.specs.Communications.{places_from}
use Rattle.program_tables.proofs.communications.places_in.Given as goal

abbrev pub invariant-loop-at : goal.invariant-loop-at
invariant-loop-at l = l.row.items ++ places_from l.at (drop l.at l.list) ≡ places_from 0 l.list
