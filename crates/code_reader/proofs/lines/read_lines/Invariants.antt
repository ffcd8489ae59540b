use Rattle.std.proofs.Common.{◌≡◌, ◌≤◌, ◌+◌, ◌-◌, length, drop}
use Rattle.text_lines.specs.Text.{lines_of}
use Rattle.macro_code.specs.ReadText.{rest_of, start}
use Rattle.code_reader.specs.Read.{reading}
use Rattle.code_reader.proofs.lines.read_lines.Given as goal

abbrev pub invariant-loop-from : goal.invariant-loop-from
invariant-loop-from l = record {
  rest : rest_of l.known.operations l.known.archi (reading l.reader) l.number (lines_of (drop l.from l.bytes)) ≡ rest_of l.known.operations l.known.archi start 1 (lines_of l.bytes);
  counted : l.number + length (lines_of (drop l.from l.bytes)) ≡ length (lines_of l.bytes) + 1;
  within : l.from ≤ length l.bytes + 1;
}

abbrev pub decreases-loop-from : goal.decreases-loop-from
decreases-loop-from l = length l.bytes - l.from
