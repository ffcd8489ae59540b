use Rattle.std.proofs.Common.{◌≡◌, ◌-◌, ◌^◌, min}
use Rattle.executive_program.specs.Owners.{sum_below}
use Rattle.macro_code.specs.ReadText.{wire_len}
use Rattle.code_reader.specs.Wide.{program_of}
use Rattle.code_reader.proofs.counts.wire_words.Given as goal

abbrev pub invariant-loop-medium : goal.invariant-loop-medium
invariant-loop-medium l = l.total ≡ min (sum_below (wire_len (program_of l.program)) l.medium) (2 ^ 128 - 1)
