use Rattle.std.proofs.Common.{◌≡◌, ℕ, None, vec_len}
use Rattle.sequence_build.specs.Uses.{write_at}
use Rattle.sequence_build.proofs.uses.no_writes.Given as goal

-- none is written
abbrev pub invariant-loop : goal.invariant-loop
invariant-loop l = record {
  many : vec_len l.places ≡ l.counter;
  none : (b : ℕ) → write_at l.places.items b ≡ None;
}
