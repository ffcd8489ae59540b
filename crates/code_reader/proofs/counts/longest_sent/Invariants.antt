use Rattle.std.proofs.Common.{◌≡◌, max, map, drop}
use Rattle.executive_program.specs.MicroSteps.{longest_sent}
use Rattle.code_lines.specs.Views.{instr_of}
use Rattle.code_reader.specs.Wide.{program_of}
use Rattle.code_reader.proofs.counts.longest_sent.Given as goal

abbrev pub invariant-loop-written : goal.invariant-loop-written
invariant-loop-written l = max l.longest (longest_sent (program_of l.program) (map instr_of (drop l.written-index l.list))) ≡ longest_sent (program_of l.program) (map instr_of l.list)
