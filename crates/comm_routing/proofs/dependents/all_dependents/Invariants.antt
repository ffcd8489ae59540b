use Rattle.std.proofs.Common.{◌≡◌, ℕ, ◌<◌, ◌++◌, drop, length, vec_len}
use Rattle.comm_routing.specs.Dependents.{dependents_from, list_at}
use Rattle.comm_routing.proofs.dependents.all_dependents.Given as goal

-- what is left makes the whole
abbrev pub invariant-loop-op : goal.invariant-loop-op
invariant-loop-op l = record {
  size : vec_len l.lists ≡ length l.vertices;
  left : (u : ℕ) → u < length l.vertices → list_at l.lists.items u ++ dependents_from u l.op (drop l.op l.vertices) ≡ dependents_from u 0 l.vertices;
}
