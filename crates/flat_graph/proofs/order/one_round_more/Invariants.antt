use Rattle.std.proofs.Common.{◌≡◌, ℕ, ◌<◌, ◌≤◌, ◌||◌, false, length}
use Rattle.std.specs.Prelude.{slice_get, slice_index_or}
use Rattle.std.specs.List.{list_all}
use Rattle.flat_graph.specs.Graph.{with_vertex}
use Rattle.flat_graph.specs.Order.{depends_on}
use Rattle.flat_graph.proofs.order.one_round_more.Given as goal

-- the operations before v had their turn
abbrev pub invariant-loop-v : goal.invariant-loop-v
invariant-loop-v l = record {
  long : length l.done ≡ 2048;
  past : (u : ℕ) → u < l.v → slice_index_or l.done u false
      ≡ (slice_index_or l.before u false || with_vertex (slice_get l.vertices u) false (λ x. list_all (λ w. slice_index_or l.before w false) (depends_on x)));
  rest : (u : ℕ) → l.v ≤ u → slice_index_or l.done u false ≡ slice_index_or l.before u false;
}
