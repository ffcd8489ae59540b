use Rattle.std.proofs.Common.{◌≡◌, ◌++◌, drop}
use Rattle.program_tables.specs.Marks.{marks_at}
use Rattle.program_tables.proofs.marks.push_named.Given as goal

abbrev pub invariant-loop-port : goal.invariant-loop-port
invariant-loop-port l = l.out.items ++ marks_at l.sequence l.at l.port (drop l.port l.numbers) ≡ l.initial.out.items ++ marks_at l.sequence l.at 0 l.numbers
