use Rattle.std.proofs.Common.{◌≡◌, ℕ, [], vec_len}
use Rattle.comm_routing.specs.Dependents.{list_at}
use Rattle.comm_routing.proofs.dependents.no_lists.Given as goal

-- each is empty
abbrev pub invariant-loop : goal.invariant-loop
invariant-loop l = record {
  size : vec_len l.lists ≡ l.counter;
  none : (u : ℕ) → list_at l.lists.items u ≡ [];
}
