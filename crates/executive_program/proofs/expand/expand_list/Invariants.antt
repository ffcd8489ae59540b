use Rattle.std.proofs.Common.{◌≡◌, ◌≤◌, take}
use Rattle.std.specs.List.{count_by}
use Rattle.executive_program.specs.Blocks.{blocks}
use Rattle.executive_program.specs.Instructions.{is_communication}
use Rattle.executive_program.specs.Steps.{steps_at}
use Rattle.executive_program.proofs.expand.expand_list.Given as goal

abbrev pub invariant-loop-instr : goal.invariant-loop-instr
invariant-loop-instr l = record {
  steps : l.out.items ≡ blocks (steps_at l.program l.medium l.list) l.instr-index;
  on : l.at.medium ≡ l.medium;
  all : l.at.communications ≡ count_by is_communication l.list;
  counted : l.at.before ≡ count_by is_communication (take l.instr-index l.list);
  few : l.at.before ≤ l.instr-index;
}
