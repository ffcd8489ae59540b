use Rattle.std.proofs.Common.{◌≡◌, drop, map}
use Rattle.algo_resolve.specs.Parts.{of}
use Rattle.algo_resolve.specs.Wiring.{source_among}
use Rattle.algo_resolve.proofs.sources.Graph.source_among.Given as goal

-- the edges that are left decide
abbrev pub invariant-loop-edge : goal.invariant-loop-edge
invariant-loop-edge l =
    source_among (of l.self) l.self.ins.now l.self.references.now (map (λ e. e.now) (drop l.edge-index l.edges)) l.port
    ≡ source_among (of l.self) l.self.ins.now l.self.references.now (map (λ e. e.now) l.edges) l.port
