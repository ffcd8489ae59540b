use Rattle.std.proofs.Common.{◌≡◌, drop}
use Rattle.algo_tree.specs.Order.{guards_ready}
use Rattle.hierarchy.specs.Order.{is_done}
use Rattle.hierarchy.proofs.order.are_guards_ready.Given as goal

abbrev pub invariant-loop-guard : goal.invariant-loop-guard
invariant-loop-guard l = guards_ready (is_done l.done) (drop l.guard-index l.guards) ≡ guards_ready (is_done l.done) l.guards
