use Rattle.std.proofs.Common.{◌≡◌, ◌++◌, drop}
use Rattle.algo_rules.specs.Graphs.{sources}
use Rattle.body_check.proofs.parts.GraphParts.sources.Given as goal

abbrev pub invariant-loop-edge : goal.invariant-loop-edge
invariant-loop-edge l =
    l.sources.items ++ sources l.self.defs.now l.self.references.now (drop l.edge-index l.self.edges.now) l.name
    ≡ sources l.self.defs.now l.self.references.now l.self.edges.now l.name
