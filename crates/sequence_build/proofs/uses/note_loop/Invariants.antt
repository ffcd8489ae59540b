use Rattle.std.proofs.Common.{◌≡◌, ℕ, ◌<◌, drop, vec_len}
use Rattle.sequence_build_laws.specs.Instructions.{reads}
use Rattle.sequence_build.specs.Uses.{uses_at, uses_in}
use Rattle.sequence_build.proofs.uses.note_loop.Given as goal

-- what is left to be noted makes the whole
abbrev pub invariant-loop-at : goal.invariant-loop-at
invariant-loop-at l = record {
  many : vec_len l.uses ≡ vec_len l.fn.uses;
  left : (b : ℕ) → b < vec_len l.fn.uses → uses_in (reads b) l.sequence l.at (drop l.at l.turn) (uses_at l.uses.items b) ≡ uses_in (reads b) l.sequence 0 l.turn (uses_at l.fn.uses.items b);
}
