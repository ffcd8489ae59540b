use Rattle.std.proofs.Common.{◌≡◌, ◌++◌, ◌≤◌, ◌-◌, length, drop, map, All}
use Rattle.text_lines.specs.Text.{words_of, text_at, IsWithin}
use Rattle.text_lines.proofs.spans.Given as goal

abbrev pub invariant-loop-at : goal.invariant-loop-at
invariant-loop-at l = record {
  inside : l.at ≤ length l.code;
  read : map (text_at l.code) l.spans.items ++ words_of (drop l.at l.code) ≡ words_of l.code;
  each : All (IsWithin (length l.code)) l.spans.items;
}

abbrev pub decreases-loop-at : goal.decreases-loop-at
decreases-loop-at l = length l.code - l.at
