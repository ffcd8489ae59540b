use Rattle.hierarchy.specs.Order.{nodes_of}
use Rattle.hierarchy.proofs.Rounds.{AreTried}
use Rattle.hierarchy.proofs.order.one_round.Given as goal

abbrev pub invariant-loop-r : goal.invariant-loop-r
invariant-loop-r l = AreTried (nodes_of l.vertices.items) l.r l.fn.begun l.begun
