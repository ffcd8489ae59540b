use Rattle.std.proofs.Common.{ℕ, ◌<◌, ◌^◌, length}
use Rattle.sequence_build_laws.specs.Instructions.{turn}
use Rattle.macro_check.proofs.short.loops_are_short.Given as goal

abbrev pub invariant-loop-sequence : goal.invariant-loop-sequence
invariant-loop-sequence l = (s : ℕ) → s < l.sequence → length (turn l.program s) < 2 ^ 32
