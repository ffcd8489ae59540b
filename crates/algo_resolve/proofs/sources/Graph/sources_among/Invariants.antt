use Rattle.std.proofs.Common.{◌≡◌, ◌++◌, drop, map}
use Rattle.algo_resolve.specs.Parts.{of}
use Rattle.algo_resolve.specs.Wiring.{source_among}
use Rattle.algo_resolve.proofs.sources.Graph.sources_among.Given as goal

abbrev pub invariant-loop-port : goal.invariant-loop-port
invariant-loop-port l =
    l.sources.items ++ map (λ p. source_among (of l.self) l.self.ins.now l.self.references.now (map (λ e. e.now) l.edges) p.name) (drop l.port-index l.ports)
    ≡ map (λ p. source_among (of l.self) l.self.ins.now l.self.references.now (map (λ e. e.now) l.edges) p.name) l.ports
