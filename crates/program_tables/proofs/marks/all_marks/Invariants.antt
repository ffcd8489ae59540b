use Rattle.std.proofs.Common.{◌≡◌, ◌++◌, drop}
use Rattle.program_tables.specs.Marks.{marks_from}
use Rattle.program_tables.proofs.marks.all_marks.Given as goal

abbrev pub invariant-loop-sequence : goal.invariant-loop-sequence
invariant-loop-sequence l = l.marks.items ++ marks_from l.role l.sequence (drop l.sequence l.program.seqs) ≡ marks_from l.role 0 l.program.seqs
