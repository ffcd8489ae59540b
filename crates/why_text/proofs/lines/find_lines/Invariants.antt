use Rattle.std.proofs.Common.{◌≡◌, ◌≤◌, ◌+◌, ◌-◌, length, drop}
use Rattle.text_lines.specs.Text.{lines_of}
use Rattle.why_text.specs.Lines.{nothing, seen_from}
use Rattle.why_text.specs.Views.{view}
use Rattle.why_text.proofs.lines.find_lines.Given as goal

abbrev pub invariant-loop-from : goal.invariant-loop-from
invariant-loop-from l = record {
  rest : seen_from (view l.seen) l.number (lines_of (drop l.from l.text)) ≡ seen_from nothing 1 (lines_of l.text);
  low : l.number ≤ l.from + 1;
  within : l.from ≤ length l.text + 1;
}

abbrev pub decreases-loop-from : goal.decreases-loop-from
decreases-loop-from l = length l.text - l.from
