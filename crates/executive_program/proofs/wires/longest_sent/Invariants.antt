use Rattle.std.proofs.Common.{◌≡◌, max, drop}
use Rattle.executive_program.specs.MicroSteps.{longest_sent}
use Rattle.executive_program.proofs.wires.longest_sent.Given as goal

abbrev pub invariant-loop-instr : goal.invariant-loop-instr
invariant-loop-instr l = max l.longest (longest_sent l.program (drop l.instr-index l.list)) ≡ longest_sent l.program l.list
