use Rattle.std.proofs.Common.{List, map, ap, ◌∙◌}
use Rattle.algo_laws.specs.declared.Edge.{Edge}
use Rattle.algo_laws.specs.Resolved.{sources_to}
use Rattle.algo_resolve.specs.Parts.{of}
use Rattle.algo_resolve.specs.Wiring.{source_among}
use Rattle.algo_resolve.proofs.Edges.{sources_by_owner}
use Rattle.algo_resolve.proofs.Told.{retold}
use Rattle.algo_resolve.proofs.sources.Graph.sources_to.Goals as goal

pub returns : goal.returns
returns c =
    let g = c.args.self.now in
    let ports = c.args.ports.now in
    retold (λ s. s) c.sources_among.result _ (sources_to (of g) g.ins.now g.references.now g.edges.now c.args.owner.now ports)
    (ap (λ (es : List Edge). map (λ p. source_among (of g) g.ins.now g.references.now es p.name) ports) (ap (λ es. map (λ e. e.now) es) c.deref.ensures.value ∙ c.in_ok-edges.ensures)
    ∙ sources_by_owner (of g) g.ins.now g.references.now c.args.owner.now g.edges.now ports)
    c.sources_among.ensures
