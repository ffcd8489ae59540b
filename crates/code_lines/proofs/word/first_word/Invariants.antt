use Rattle.std.proofs.Common.{◌≡◌, ◌≤◌, ◌-◌, drop, length}
use Rattle.text_lines.specs.Text.{words_of}
use Rattle.code_lines.proofs.word.first_word.Given as goal

abbrev pub invariant-loop-from : goal.invariant-loop-from
invariant-loop-from l = record {
  within : l.from ≤ length l.code;
  rest : words_of (drop l.from l.code) ≡ words_of l.code;
}

abbrev pub decreases-loop-from : goal.decreases-loop-from
decreases-loop-from l = length l.code - l.from
