use Rattle.std.proofs.Common.{◌≡◌, ℕ, [], vec_len}
use Rattle.sequence_build.specs.Uses.{uses_at}
use Rattle.sequence_build.proofs.uses.no_uses.Given as goal

-- none has a use
abbrev pub invariant-loop : goal.invariant-loop
invariant-loop l = record {
  many : vec_len l.uses ≡ l.counter;
  none : (b : ℕ) → uses_at l.uses.items b ≡ [];
}
