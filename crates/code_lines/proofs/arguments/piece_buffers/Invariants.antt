use Rattle.std.proofs.Common.{◌≡◌, ◌≤◌, ◌+◌, ◌-◌, length}
use Rattle.std.specs.List.{slice_split}
use Rattle.macro_code.specs.Forms.{buffer_in, each_in, is_comma}
use Rattle.code_lines.proofs.Each.{behind}
use Rattle.code_lines.proofs.Lists.{pieces}
use Rattle.code_lines.proofs.arguments.piece_buffers.Given as goal

abbrev pub invariant-loop-from : goal.invariant-loop-from
invariant-loop-from l = record {
  within : l.from ≤ length l.list + 1;
  read : behind l.numbers.items (each_in buffer_in (pieces l.list l.from)) ≡ each_in buffer_in (slice_split is_comma l.list);
}

abbrev pub decreases-loop-from : goal.decreases-loop-from
decreases-loop-from l = length l.list + 1 - l.from
