use Rattle.std.proofs.Common.{◌≡◌, arith, get_or, map, ap, ap₂, ◌∙◌, subst}
use Rattle.std.specs.Prelude.{sum}
use Rattle.flat_graph.proofs.ReadLens.{vertex_there}
use Rattle.graph_code.specs.Places.{span_of}
use Rattle.graph_code.specs.Compiled.{HasCodeAt}
use Rattle.graph_code.proofs.Compiling.{operation_for, start_count, start_there}
use Rattle.graph_code.proofs.operation.compile_operation.Goals as goal

pub bounds-starts-v : goal.bounds-starts-v
bounds-starts-v c = omega (arith, start_count c.args.flat.now.vertices c.args.starts.now c.requires.starts, c.requires.there)

pub returns-clause-operation : goal.returns-clause-operation
returns-clause-operation c =
    let g = c.args.flat.now in
    let v = c.args.v in
    let x = c.index-vertices-v.result in
    let same = c.vertices-vertices.ensures.same in
    let is = vertex_there c.vertices-vertices.result.now g.vertices v x same c.requires.there c.index-vertices-v.is in
    let start = start_there g.vertices c.args.starts.now v 0 c.requires.starts c.requires.there in
    let len = c.in_ok-len.ensures ∙ ap sum c.as_slice.ensures in
    operation_for g c.compile_outputs.new.sizes.all v x _ is (λ i. record { start = start i; len = len i })
    (c.in_ok-inputs.ensures ∙ ap₂ (λ xs ss. map (span_of xs) ss) same c.as_slice-2.ensures)
    (c.in_ok-conditions.ensures ∙ ap₂ (λ xs gs. map (λ d. span_of xs d.source) gs) same c.as_slice-3.ensures)
    (subst (λ ts. HasCodeAt g c.compile_outputs.new.sizes.all v ts (get_or c.args.starts.now v 0) c.in_ok-outputs.outputs.items) c.deref.ensures.value c.in_ok-outputs.ensures.outputs)
