use Rattle.std.proofs.Common.{◌≡◌, ◌++◌, drop, map}
use Rattle.program_tables.specs.Communications.{numbers_from}
use Rattle.program_tables.proofs.communications.communication_numbers.Given as goal

abbrev pub invariant-loop-code : goal.invariant-loop-code
invariant-loop-code l = l.rows.items ++ map (λ q. numbers_from 0 q.turn) (drop l.code-index l.program.seqs) ≡ map (λ q. numbers_from 0 q.turn) l.program.seqs
