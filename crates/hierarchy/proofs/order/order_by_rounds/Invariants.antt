use Rattle.std.proofs.Common.{◌≡◌, ℕ, true}
use Rattle.algo_tree.specs.Order.{settled}
use Rattle.hierarchy.specs.Order.{nodes_of, is_done}
use Rattle.hierarchy.specs.Begun.{IsBegun}
use Rattle.hierarchy.proofs.order.order_by_rounds.Given as goal

abbrev pub invariant-loop-round : goal.invariant-loop-round
invariant-loop-round l = record {
  begun : IsBegun (nodes_of l.vertices.items) l.begun;
  so_far : (q : ℕ) → settled (nodes_of l.vertices.items) l.round q ≡ true → is_done l.begun.done.items q ≡ true;
}
