use Rattle.std.proofs.Common.{◌≡◌, ℕ, ◌<◌, ◌++◌, drop, map, vec_len}
use Rattle.comm_routing.specs.Dependents.{list_at, repeated}
use Rattle.comm_routing.proofs.dependents.note_guards.Given as goal

-- what is left makes the whole
abbrev pub invariant-loop-guard : goal.invariant-loop-guard
invariant-loop-guard l = record {
  size : vec_len l.lists ≡ vec_len l.fn.lists;
  left : (u : ℕ) → u < vec_len l.fn.lists
      → list_at l.lists.items u ++ repeated l.op u (map (λ g. g.source.vertex) (drop l.guard-index l.guards)) ≡ list_at l.fn.lists.items u ++ repeated l.op u (map (λ g. g.source.vertex) l.guards);
}
