use Rattle.std.proofs.Common.{◌≡◌, ◌++◌, drop}
use Rattle.program_tables.specs.Marks.{marks_in}
use Rattle.program_tables.proofs.marks.push_loop.Given as goal

abbrev pub invariant-loop-at : goal.invariant-loop-at
invariant-loop-at l = l.out.items ++ marks_in l.role l.sequence l.at (drop l.at l.list) ≡ l.initial.out.items ++ marks_in l.role l.sequence 0 l.list
