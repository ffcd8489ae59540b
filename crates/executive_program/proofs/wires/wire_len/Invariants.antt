use Rattle.std.proofs.Common.{◌≡◌, max, drop}
use Rattle.executive_program.specs.MicroSteps.{longest_on}
use Rattle.executive_program.proofs.wires.wire_len.Given as goal

abbrev pub invariant-loop-code : goal.invariant-loop-code
invariant-loop-code l = max l.longest (longest_on l.program (drop l.code-index l.program.seqs) l.medium) ≡ longest_on l.program l.program.seqs l.medium
