use Rattle.std.proofs.Common.{◌≡◌, ◌++◌, drop, map}
use Rattle.algo_resolve.specs.Wiring.{into}
use Rattle.algo_resolve.proofs.sources.edges_into.Given as goal

abbrev pub invariant-loop-edge : goal.invariant-loop-edge
invariant-loop-edge l = map (λ e. e.now) l.all.items ++ into l.owner (drop l.edge-index l.edges) ≡ into l.owner l.edges
