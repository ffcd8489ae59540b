use Rattle.std.proofs.Common.{◌≡◌, ◌++◌, drop}
use Rattle.macro_check.specs.Awaiting.{sequences_in}
use Rattle.macro_check.proofs.awaiting.push_sequences.Given as goal

abbrev pub invariant-loop-mark : goal.invariant-loop-mark
invariant-loop-mark l = l.looks.items ++ sequences_in (drop l.mark-index l.marks) ≡ l.initial.looks.items ++ sequences_in l.marks
