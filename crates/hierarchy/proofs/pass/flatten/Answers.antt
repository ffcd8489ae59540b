use Rattle.std.proofs.Common.{length, sym, ap, ◌∙◌, subst}
use Rattle.flat_laws.specs.Guarded.{guard as guarded}
use Rattle.flat_laws.specs.Inlined.{operations}
use Rattle.flat_laws.specs.Unrolled.{unroll as unrolled}
use Rattle.flat_laws.specs.EndLengths.{HasEndLengths}
use Rattle.flat_laws.specs.Stands.{KeepsGraph}
use Rattle.flat_laws.proofs.Exact.{exact}
use Rattle.flat_laws.proofs.Flattened.{flattened-count, flattened-flat, flattened-keeps, flattened-lengths}
use Rattle.flat_laws.specs.Listed.{HasOperations}
use Rattle.flat_laws.proofs.Listing.{has-operations}
use Rattle.hierarchy.specs.Built.{graph_of}
use Rattle.hierarchy.proofs.pass.flatten.Goals as goal

pub new-requires : goal.new-requires
new-requires c =
    let main = c.args.tree.now in
    let g = graph_of c.in_ok-vertices.field-0 in
    let stands = c.in_ok-vertices.ensures.stands in
    flattened-flat main c.main-main.ensures.valid g stands

pub returns-clause-kept : goal.returns-clause-kept
returns-clause-kept c =
    let main = c.args.tree.now in
    let g = graph_of c.in_ok-vertices.field-0 in
    let stands = c.in_ok-vertices.ensures.stands in
    subst (λ x. KeepsGraph main x (operations (guarded (unrolled main)))) (sym c.new.ensures) (flattened-keeps main c.main-main.ensures.valid g stands)

pub returns-clause-count : goal.returns-clause-count
returns-clause-count c =
    let main = c.args.tree.now in
    let g = graph_of c.in_ok-vertices.field-0 in
    let stands = c.in_ok-vertices.ensures.stands in
    ap (λ x. length x.vertices) c.new.ensures ∙ flattened-count main c.main-main.ensures.valid g stands

pub returns-clause-same : goal.returns-clause-same
returns-clause-same c =
    let main = c.args.tree.now in
    let g = graph_of c.in_ok-vertices.field-0 in
    let stands = c.in_ok-vertices.ensures.stands in
    c.new.ensures ∙ exact g (operations (guarded (unrolled main))) stands c.in_ok-vertices.ensures.order

pub returns-clause-operations : goal.returns-clause-operations
returns-clause-operations c =
    let main = c.args.tree.now in
    let g = graph_of c.in_ok-vertices.field-0 in
    let stands = c.in_ok-vertices.ensures.stands in
    subst (HasOperations main) (sym (c.new.ensures ∙ exact g (operations (guarded (unrolled main))) stands c.in_ok-vertices.ensures.order)) (has-operations main c.main-main.ensures.valid)

pub returns-clause-lengths : goal.returns-clause-lengths
returns-clause-lengths c =
    let main = c.args.tree.now in
    let g = graph_of c.in_ok-vertices.field-0 in
    let stands = c.in_ok-vertices.ensures.stands in
    subst (HasEndLengths main) (sym c.new.ensures) (flattened-lengths main c.main-main.ensures.valid g stands)
