use Rattle.std.proofs.Common.{◌≡◌, ◌++◌, drop, map}
use Rattle.algo_rules.specs.Graphs.{dependences, sources}
use Rattle.body_check.proofs.parts.GraphParts.dependences.Given as goal

abbrev pub invariant-loop-reference : goal.invariant-loop-reference
invariant-loop-reference l =
    l.links.items ++ map (λ r. sources l.self.defs.now l.self.references.now l.self.edges.now r.name) (drop l.reference-index l.self.references.now)
    ≡ dependences l.self.defs.now l.self.references.now l.self.edges.now
