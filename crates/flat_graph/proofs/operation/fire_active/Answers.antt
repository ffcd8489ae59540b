use Rattle.std.proofs.Common.{◌+◌, ◌∷◌, [], length, take, ap, sym, arith, ◌∙◌}
use Rattle.std.specs.Prelude.{sum}
use Rattle.body_lang.specs.Expr.{function_outputs}
use Rattle.level_meaning.specs.Level.{selected}
use Rattle.flat_graph.specs.Fire.{kind_outputs}
use Rattle.flat_graph.specs.Valid.{are_equal}
use Rattle.flat_graph.proofs.Firing.{ports_all, function_is, explode_len, case_there, merged_is, merged_fits}
use Rattle.flat_graph.proofs.operation.fire_active.Goals as goal
use Rattle.syn_base.specs.Vectors.{vector_at}

pub put_values-requires-clause-ports : goal.put_values-requires-clause-ports
put_values-requires-clause-ports c =
    let h = rw c.in-Function.is at c.requires.fits in
    ports_all c.args.bodies.now c.in-Function.body c.index-bodies-body.result c.args.ins.now (length c.args.vertex.now.ins)
    (length c.args.vertex.now.outs) c.requires.count c.index-bodies-body.is h c.outputs.result.now c.outputs.ensures

pub put_parts-requires-clause-whole : goal.put_parts-requires-clause-whole
put_parts-requires-clause-whole c =
    let h = rw c.in-Explode.is at c.requires.fits in
    ap length c.vector-in-Explode.ensures
    ∙ explode_len c.args.ins.now (length c.args.vertex.now.ins) (sum c.args.vertex.now.outs) (are_equal c.args.vertex.now.outs) h
    ∙ ap sum (sym c.as_slice-lens.ensures)

pub overflow_add-case : goal.overflow_add-case
overflow_add-case c =
    let h = rw c.in-Merge.is at c.requires.fits in
    let there = case_there c.in-Merge.values c.args.ins.now (length c.args.vertex.now.ins) c.args.vertex.now.outs c.requires.count h c.vector-in-Merge.result.now in
    let case = c.selected-case.ensures ∙ ap (λ zs. selected zs c.vector-in-Merge.result.now) c.as_slice-in-Merge.ensures in
    record { fits = omega (arith, there, case, c.input_count-count.ensures, c.requires.count) }

pub vector-requires-in-Merge-2 : goal.vector-requires-in-Merge-2
vector-requires-in-Merge-2 c =
    let h = rw c.in-Merge.is at c.requires.fits in
    let there = case_there c.in-Merge.values c.args.ins.now (length c.args.vertex.now.ins) c.args.vertex.now.outs c.requires.count h c.vector-in-Merge.result.now in
    let case = c.selected-case.ensures ∙ ap (λ zs. selected zs c.vector-in-Merge.result.now) c.as_slice-in-Merge.ensures in
    omega (arith, there, case, c.requires.count)

pub put_only-requires-in-Merge : goal.put_only-requires-in-Merge
put_only-requires-in-Merge c =
    let h = rw c.in-Merge.is at c.requires.fits in
    let case = c.selected-case.ensures ∙ (λ i. selected (c.as_slice-in-Merge.ensures i) (c.vector-in-Merge.ensures i)) in
    let read = c.vector-in-Merge-2.ensures ∙ ap (λ k. vector_at c.args.ins.now (1 + k)) case in
    c.requires.outs ∙ merged_fits c.in-Merge.values c.args.ins.now (length c.args.vertex.now.ins) c.args.vertex.now.outs c.requires.count h ∙ ap (λ v. length v ∷ []) (sym read)

pub returns-in-Function-clause-outs : goal.returns-in-Function-clause-outs
returns-in-Function-clause-outs c =
    let h = rw c.in-Function.is at c.requires.fits in
    c.put_values.ensures
    ∙ (λ i. function_outputs (c.as_slice-lens.ensures i) (c.outputs.ensures i) c.args.ins.now)
    ∙ function_is c.args.bodies.now c.in-Function.body c.index-bodies-body.result c.args.ins.now (length c.args.vertex.now.ins)
    (length c.args.vertex.now.outs) c.requires.count c.index-bodies-body.is h c.args.vertex.now.outs
    ∙ ap (λ k. kind_outputs c.args.bodies.now k c.args.vertex.now.outs c.args.cell.now c.args.row.now (take (length c.args.vertex.now.ins) c.args.ins.now)) (sym c.in-Function.is)

pub returns-in-Merge-clause-outs : goal.returns-in-Merge-clause-outs
returns-in-Merge-clause-outs c =
    let h = rw c.in-Merge.is at c.requires.fits in
    let case = c.selected-case.ensures ∙ (λ i. selected (c.as_slice-in-Merge.ensures i) (c.vector-in-Merge.ensures i)) in
    let read = c.vector-in-Merge-2.ensures ∙ ap (λ k. vector_at c.args.ins.now (1 + k)) case
    ∙ merged_is c.in-Merge.values c.args.ins.now (length c.args.vertex.now.ins) c.args.vertex.now.outs c.requires.count h in
    c.put_only-in-Merge.ensures
    ∙ ap (λ v. v ∷ []) read
    ∙ ap (λ k. kind_outputs c.args.bodies.now k c.args.vertex.now.outs c.args.cell.now c.args.row.now (take (length c.args.vertex.now.ins) c.args.ins.now)) (sym c.in-Merge.is)
