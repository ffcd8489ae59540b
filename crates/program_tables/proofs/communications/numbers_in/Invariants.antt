use Rattle.std.proofs.Common.{◌≡◌, ◌≤◌, ◌++◌, drop}
use Rattle.program_tables.specs.Communications.{numbers_from}
use Rattle.program_tables.proofs.communications.numbers_in.Given as goal

abbrev pub invariant-loop-instr : goal.invariant-loop-instr
invariant-loop-instr l = record {
  whole : l.row.items ++ numbers_from l.number (drop l.instr-index l.list) ≡ numbers_from 0 l.list;
  few : l.number ≤ l.instr-index;
}
