use Rattle.std.proofs.Common.{◌≡◌, ℕ, ◌<◌, ◌++◌, drop, map, vec_len}
use Rattle.comm_routing.specs.Dependents.{list_at, repeated}
use Rattle.comm_routing.proofs.dependents.note_sources.Given as goal

-- what is left makes the whole
abbrev pub invariant-loop-source : goal.invariant-loop-source
invariant-loop-source l = record {
  size : vec_len l.lists ≡ vec_len l.fn.lists;
  left : (u : ℕ) → u < vec_len l.fn.lists
      → list_at l.lists.items u ++ repeated l.op u (map (λ s. s.vertex) (drop l.source-index l.sources)) ≡ list_at l.fn.lists.items u ++ repeated l.op u (map (λ s. s.vertex) l.sources);
}
