use Rattle.std.proofs.Common.{List, Some, get_or, ap, sym, ◌∙◌}
use Rattle.std.proofs.lemmas.Option.{get_or_from_slice_get}
use Rattle.body_lang.specs.declared.expression.Port.{Port}
use Rattle.syn_base.specs.Bytes.{Bytes}
use Rattle.algo_laws.specs.Resolved.{sources_to}
use Rattle.algo_laws.specs.declared.Ports.{Ports}
use Rattle.algo_resolve.specs.Parts.{of}
use Rattle.algo_resolve.proofs.Placed.{place_at, place_there, ports_at}
use Rattle.algo_resolve.proofs.Planned.{inside}
use Rattle.algo_resolve.proofs.Told.{retold}
use Rattle.algo_resolve.proofs.plan.inputs.Goals as goal

pub bounds-graph-at : goal.bounds-graph-at
bounds-graph-at c =
    let g = c.args.graph.now in
    place_there g.checked.defs.now g.checked.table.now g.references.now g.places.now c.requires.placed c.args.at (inside g.references.now c.args.at c.args.reference.now c.requires.there)

pub bounds-graph-place : goal.bounds-graph-place
bounds-graph-place c =
    let g = c.args.graph.now in
    let r = c.args.reference.now in
    let there = place_at g.checked.defs.now g.checked.table.now g.references.now g.places.now c.requires.placed c.args.at r
    (inside g.references.now c.args.at r c.requires.there) (sym (get_or_from_slice_get g.references.now c.args.at r r c.requires.there)) in
    there.in_table

pub returns : goal.returns
returns c =
    let g = c.args.graph.now in
    let r = c.args.reference.now in
    let there = place_at g.checked.defs.now g.checked.table.now g.references.now g.places.now c.requires.placed c.args.at r
    (inside g.references.now c.args.at r c.requires.there) (sym (get_or_from_slice_get g.references.now c.args.at r r c.requires.there)) in
    let own =
    ports_at g.checked.defs.now g.checked.table.now r.def (get_or g.places.now c.args.at 0) c.index-graph-place.result there in
    retold (λ s. s) c.sources_to.result _ (sources_to (of g) g.ins.now g.references.now g.edges.now (Some r.name) (of g r.def).ins)
    (ap (λ (w : Bytes). sources_to (of g) g.ins.now g.references.now g.edges.now (Some w) c.as_slice.result.now) c.in_ok-copy.ensures
    ∙ ap (λ (ps : List Port). sources_to (of g) g.ins.now g.references.now g.edges.now (Some r.name) ps) (c.as_slice.ensures ∙ ap (λ (p : Ports). p.ins) own))
    c.sources_to.ensures
