use Rattle.std.proofs.Common.{◌≡◌, ◌≤◌, ◌+◌, ◌-◌, ◌++◌, length, drop}
use Rattle.text_lines.specs.Text.{lines_of}
use Rattle.text_lint.specs.Numbered.{numbers_from, numbers_of}
use Rattle.text_lint.proofs.numbers.numbers_of.Given as goal

abbrev pub invariant-loop-from : goal.invariant-loop-from
invariant-loop-from l = record {
  whole : l.numbers.items ++ numbers_from l.key l.number (lines_of (drop l.from l.text)) ≡ numbers_of l.key l.text;
  counted : l.number ≤ l.from + 1;
  within : l.from ≤ length l.text + 1;
}

abbrev pub decreases-loop-from : goal.decreases-loop-from
decreases-loop-from l = length l.text - l.from
