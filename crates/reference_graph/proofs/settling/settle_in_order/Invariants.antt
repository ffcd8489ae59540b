use Rattle.std.proofs.Common.{◌≡◌, length}
use Rattle.reference_graph.specs.Settled.{IsSettled}
use Rattle.reference_graph.proofs.settling.settle_in_order.Given as goal

abbrev pub invariant-loop-k : goal.invariant-loop-k
invariant-loop-k l = record { same : length l.depths.items ≡ length l.links; settled : IsSettled l.links l.depths.items l.k }
