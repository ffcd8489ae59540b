use Rattle.std.proofs.Common.{◌≡◌, ℕ, ◌<◌, drop, length}
use Rattle.sequence_build_laws.specs.Instructions.{writes}
use Rattle.sequence_build.specs.Uses.{write_at, write_in}
use Rattle.sequence_build.proofs.uses.note_loop_writes.Given as goal

-- what is left to be noted makes the whole
abbrev pub invariant-loop-at : goal.invariant-loop-at
invariant-loop-at l = record {
  many : length l.places ≡ length l.fn.places;
  left : (b : ℕ) → b < length l.fn.places → write_in (writes b) l.sequence l.at (drop l.at l.turn) (write_at l.places b) ≡ write_in (writes b) l.sequence 0 l.turn (write_at l.fn.places b);
}
