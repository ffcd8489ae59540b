use Rattle.std.proofs.Common.{◌≡◌, ◌++◌, drop, map}
use Rattle.program_tables.specs.Communications.{places_from}
use Rattle.program_tables.proofs.communications.communication_places.Given as goal

abbrev pub invariant-loop-code : goal.invariant-loop-code
invariant-loop-code l = l.rows.items ++ map (λ q. places_from 0 q.turn) (drop l.code-index l.program.seqs) ≡ map (λ q. places_from 0 q.turn) l.program.seqs
