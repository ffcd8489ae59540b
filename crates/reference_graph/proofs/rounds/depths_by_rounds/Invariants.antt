use Rattle.std.proofs.Common.{◌≡◌}
use Rattle.reference_graph.proofs.rounds.depths_by_rounds.Given as goal
use Rattle.reference_graph.proofs.Deeper.{depths_within}

abbrev pub invariant-loop-round : goal.invariant-loop-round
invariant-loop-round l = l.depths.items ≡ depths_within l.links l._round
