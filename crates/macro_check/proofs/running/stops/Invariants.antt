use Rattle.std.proofs.Common.{◌≡◌, ◌++◌, ◌-◌, map, length, zero}
use Rattle.macro_check.specs.Awaiting.{left_in, place_of}
use Rattle.macro_check.proofs.running.stops.Given as goal

abbrev pub invariant-loop-sequence : goal.invariant-loop-sequence
invariant-loop-sequence l = map place_of l.left.items ++ left_in l.program l.done l.sequence (length l.program.seqs - l.sequence) ≡ left_in l.program l.done zero (length l.program.seqs)
