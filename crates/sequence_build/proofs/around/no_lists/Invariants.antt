use Rattle.std.proofs.Common.{◌≡◌, ℕ, [], vec_len}
use Rattle.sequence_build.specs.Around.{list_at}
use Rattle.sequence_build.proofs.around.no_lists.Given as goal

-- none has a pair
abbrev pub invariant-loop : goal.invariant-loop
invariant-loop l = record {
  many : vec_len l.lists ≡ l.counter;
  none : (a : ℕ) → list_at l.lists.items a ≡ [];
}
