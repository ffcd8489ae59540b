use Rattle.std.proofs.Common.{◌≤◌}
use Rattle.code_lines.proofs.arguments.commas.Given as goal

abbrev pub invariant-loop-byte : goal.invariant-loop-byte
invariant-loop-byte l = l.commas ≤ l.byte-index
