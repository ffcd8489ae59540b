use Rattle.std.proofs.Common.{◌≡◌, ℕ, ◌<◌, drop, length, [], vec_len}
use Rattle.sequence_build_laws.specs.Instructions.{reads}
use Rattle.sequence_build.specs.Uses.{uses_at, uses_by}
use Rattle.sequence_build.proofs.uses.uses_of.Given as goal

-- what is left to be noted makes the whole
abbrev pub invariant-loop-sequence : goal.invariant-loop-sequence
invariant-loop-sequence l = record {
  many : vec_len l.uses ≡ length l.program.buffers;
  left : (b : ℕ) → b < length l.program.buffers → uses_by (reads b) l.sequence (drop l.sequence l.program.seqs) (uses_at l.uses.items b) ≡ uses_by (reads b) 0 l.program.seqs [];
}
