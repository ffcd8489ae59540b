use Rattle.hierarchy.specs.Order.{nodes_of}
use Rattle.hierarchy.specs.Begun.{IsBegun}
use Rattle.hierarchy.proofs.order.run_proposed.Given as goal

abbrev pub invariant-loop-r : goal.invariant-loop-r
invariant-loop-r l = IsBegun (nodes_of l.vertices.items) l.begun
