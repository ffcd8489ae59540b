use Rattle.std.proofs.Common.{◌≡◌, ◌≤◌, take}
use Rattle.std.specs.List.{count_by}
use Rattle.executive_program.specs.Instructions.{is_communication}
use Rattle.executive_program.proofs.expand.count_communications.Given as goal

abbrev pub invariant-loop-instr : goal.invariant-loop-instr
invariant-loop-instr l = record {
  counted : l.count ≡ count_by is_communication (take l.instr-index l.list);
  few : l.count ≤ l.instr-index;
}
