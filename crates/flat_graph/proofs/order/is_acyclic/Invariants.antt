use Rattle.std.proofs.Common.{◌≡◌, ℕ, false}
use Rattle.std.specs.Prelude.{slice_index_or}
use Rattle.flat_graph.specs.Order.{is_done}
use Rattle.flat_graph.proofs.order.is_acyclic.Given as goal

abbrev pub invariant-loop-rounds : goal.invariant-loop-rounds
invariant-loop-rounds l = (v : ℕ) → slice_index_or l.done v false ≡ is_done l.vertices l._rounds v
