use Rattle.std.proofs.Common.{◌≡◌, drop}
use Rattle.executive_program.specs.MicroSteps.{sent_in}
use Rattle.order_check.proofs.carrying.sent_in.Given as goal

-- the instructions that are left decide
abbrev pub invariant-loop-instr : goal.invariant-loop-instr
invariant-loop-instr l = sent_in (drop l.instr-index l.list) l.left ≡ sent_in l.list l.number
