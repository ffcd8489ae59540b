use Rattle.std.proofs.Common.{◌≡◌, ℕ, true}
use Rattle.flat_graph.specs.Order.{is_done}
use Rattle.sync_meaning.specs.Begun.{has_flag, IsBegun}
use Rattle.sync_meaning.proofs.order.order_by_rounds.Given as goal

abbrev pub invariant-loop-rounds : goal.invariant-loop-rounds
invariant-loop-rounds l = record {
  begun : IsBegun l.vertices l.begun;
  so_far : (u : ℕ) → is_done l.vertices l.rounds u ≡ true → has_flag l.begun.done.items u ≡ true;
}
