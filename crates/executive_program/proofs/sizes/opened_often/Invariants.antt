use Rattle.std.proofs.Common.{◌≡◌, ◌+◌, ◌≤◌, drop, None, false}
use Rattle.executive_program.specs.Sizes.{opened_after}
use Rattle.executive_program.proofs.sizes.opened_often.Given as goal

abbrev pub invariant-loop-instr : goal.invariant-loop-instr
invariant-loop-instr l = record {
  value : l.opened.count + opened_after l.opened.last l.opened.again (drop l.instr-index l.list) ≡ opened_after None false l.list;
  few : l.opened.count ≤ l.instr-index;
}
