use Rattle.std.proofs.Common.{◌≡◌, ◌≤◌, ◌-◌, length, drop}
use Rattle.algo_text.specs.Text.{numbers_of}
use Rattle.algo_lines.proofs.Numbers.{with_front}
use Rattle.algo_lines.proofs.values.read_values.Given as goal

abbrev pub invariant-loop-at : goal.invariant-loop-at
invariant-loop-at l = record {
  within : l.at ≤ length l.words;
  read : with_front l.values.items (numbers_of l.number (drop l.at l.words)) ≡ numbers_of l.number (drop l.from l.words);
}

abbrev pub decreases-loop-at : goal.decreases-loop-at
decreases-loop-at l = length l.words - l.at
