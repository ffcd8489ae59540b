use Rattle.std.proofs.Common.{◌≡◌, ◌≤◌, ◌+◌, ◌-◌, length, drop}
use Rattle.text_lines.specs.Text.{lines_of}
use Rattle.algo_text.specs.Text.{rest_of, definitions_of}
use Rattle.algo_reader.specs.Views.{reading}
use Rattle.algo_reader.proofs.reader.read_algo.Given as goal

abbrev pub invariant-loop-from : goal.invariant-loop-from
invariant-loop-from l = record {
  rest : rest_of (reading l.reader) l.number (lines_of (drop l.from l.bytes)) ≡ definitions_of l.bytes;
  counted : l.number + length (lines_of (drop l.from l.bytes)) ≡ length (lines_of l.bytes) + 1;
  within : l.from ≤ length l.bytes + 1;
}

abbrev pub decreases-loop-from : goal.decreases-loop-from
decreases-loop-from l = length l.bytes - l.from
