use Rattle.std.proofs.Common.{◌≡◌, ap, sym, ◌∙◌}
use Rattle.std.proofs.lemmas.Result.{err_from_is_err_and}
use Rattle.algo_rules.specs.declared.Reference.{Reference}
use Rattle.algo_rules.specs.declared.ports.Ports.{Ports}
use Rattle.body_check.specs.Parts.{of}
use Rattle.body_check.proofs.LeftOpen.{are_there, open_passes, open_stops}
use Rattle.body_check.proofs.parts.GraphParts.check_unfed.Goals as goal

pub bounds-self-at : goal.bounds-self-at
bounds-self-at c = (are_there _ _ _ _ c.requires.placed _ c.loop-at-test.true).place

pub bounds-self-self : goal.bounds-self-self
bounds-self-self c = (are_there _ _ _ _ c.requires.placed _ c.loop-at-test.true).in_table

pub returns-in_err-check_inputs : goal.returns-in_err-check_inputs
returns-in_err-check_inputs c =
    let p = err_from_is_err_and c.from_residual.result c.from_residual.ensures.1 in
    let i = are_there c.args.self.now.defs.now c.args.self.now.table.now c.args.self.now.references.now c.args.self.now.places.now c.requires.placed c.loop-at.at c.loop-at-test.true in
    let ins : c.as_slice.result.now ≡ (of c.args.self.now c.reference-item.result.def).ins =
    c.as_slice.ensures ∙ ap (λ (p : Ports). p.ins) (i.ports c.reference-item.result c.index-self-self.result)
    ∙ ap (λ (r : Reference). (of c.args.self.now r.def).ins) (sym c.reference-item.is) in
    rw (p.1, p.2) (open_stops c.args.self.now c.args.self.now.edges.now _ _ c.reference-item.result _ _ _ c.reference-item.is ins c.loop-at-test.true c.loop-at.invariant c.in_err-check_inputs.ensures)

pub loop-at-preserved : goal.loop-at-preserved
loop-at-preserved c =
    let i = are_there c.args.self.now.defs.now c.args.self.now.table.now c.args.self.now.references.now c.args.self.now.places.now c.requires.placed c.loop-at.at c.loop-at-test.true in
    let ins : c.as_slice.result.now ≡ (of c.args.self.now c.reference-item.result.def).ins =
    c.as_slice.ensures ∙ ap (λ (p : Ports). p.ins) (i.ports c.reference-item.result c.index-self-self.result)
    ∙ ap (λ (r : Reference). (of c.args.self.now r.def).ins) (sym c.reference-item.is) in
    open_passes c.args.self.now c.args.self.now.edges.now _ _ c.reference-item.result _ c.reference-item.is ins c.loop-at-test.true c.in_ok-check_inputs.ensures ∙ c.loop-at.invariant
