use Rattle.std.proofs.Common.{◌≡◌, ◌++◌, drop}
use Rattle.program_tables.specs.Communications.{communicators_from}
use Rattle.program_tables.proofs.communications.all_communicators.Given as goal

abbrev pub invariant-loop-sequence : goal.invariant-loop-sequence
invariant-loop-sequence l = l.marks.items ++ communicators_from l.sequence (drop l.sequence l.program.seqs) ≡ communicators_from 0 l.program.seqs
