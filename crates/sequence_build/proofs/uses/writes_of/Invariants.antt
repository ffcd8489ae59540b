use Rattle.std.proofs.Common.{◌≡◌, ℕ, ◌<◌, drop, length, None, vec_len}
use Rattle.sequence_build_laws.specs.Instructions.{writes}
use Rattle.sequence_build.specs.Uses.{write_at, write_by}
use Rattle.sequence_build.proofs.uses.writes_of.Given as goal

-- what is left to be noted makes the whole
abbrev pub invariant-loop-sequence : goal.invariant-loop-sequence
invariant-loop-sequence l = record {
  many : vec_len l.places ≡ length l.program.buffers;
  left : (b : ℕ) → b < length l.program.buffers → write_by (writes b) l.sequence (drop l.sequence l.program.seqs) (write_at l.places.items b) ≡ write_by (writes b) 0 l.program.seqs None;
}
