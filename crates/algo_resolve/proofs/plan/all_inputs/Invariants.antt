use Rattle.std.proofs.Common.{◌≡◌, ◌++◌, drop, map, Some}
use Rattle.algo_laws.specs.Resolved.{sources_to}
use Rattle.algo_resolve.specs.Parts.{of}
use Rattle.algo_resolve.proofs.plan.all_inputs.Given as goal

abbrev pub invariant-loop-at : goal.invariant-loop-at
invariant-loop-at l =
    l.all.items ++ map (λ r. sources_to (of l.graph) l.graph.ins.now l.graph.references.now l.graph.edges.now (Some r.name) (of l.graph r.def).ins) (drop l.at l.graph.references.now)
    ≡ map (λ r. sources_to (of l.graph) l.graph.ins.now l.graph.references.now l.graph.edges.now (Some r.name) (of l.graph r.def).ins) l.graph.references.now
