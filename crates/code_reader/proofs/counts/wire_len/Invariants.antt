use Rattle.std.proofs.Common.{◌≡◌, max, map, drop}
use Rattle.macro_code.specs.ReadText.{longest_on}
use Rattle.code_reader.specs.Views.{code_of}
use Rattle.code_reader.specs.Wide.{program_of}
use Rattle.code_reader.proofs.counts.wire_len.Given as goal

abbrev pub invariant-loop-code : goal.invariant-loop-code
invariant-loop-code l = max l.longest (longest_on (program_of l.program) l.medium (map code_of (drop l.code-index l.program.seqs.now)))
    ≡ longest_on (program_of l.program) l.medium (map code_of l.program.seqs.now)
