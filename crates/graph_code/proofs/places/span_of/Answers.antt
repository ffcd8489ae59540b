use Rattle.std.proofs.Common.{arith, ap, ◌∙◌, get_or}
use Rattle.flat_graph.proofs.ReadLens.{element_there}
use Rattle.graph_code.specs.Places.{output_span}
use Rattle.graph_code.proofs.Compiling.{if_ok, span_none, span_there, start_count}
use Rattle.graph_code.proofs.places.span_of.Goals as goal

pub bounds-starts-v : goal.bounds-starts-v
bounds-starts-v c = omega (arith, start_count c.args.vertices.now c.args.starts.now c.requires, c.if-v-vertices.true)

pub returns-then-v-vertices : goal.returns-then-v-vertices
returns-then-v-vertices c =
    let xs = c.args.vertices.now in
    let s = c.args.source in
    let x = c.index-vertices-v.result in
    let is = element_there xs s.vertex x c.if-v-vertices.true c.index-vertices-v.is in
    if_ok _ _ c.output_span.result _ _
    (λ span e. e ∙ ap (λ ns. output_span (get_or c.args.starts.now s.vertex 0) ns s.port) c.as_slice.ensures
    ∙ span_there xs c.args.starts.now s x 0 c.requires c.if-v-vertices.true is) c.output_span.ensures

pub returns-else-v-vertices : goal.returns-else-v-vertices
returns-else-v-vertices c = span_none c.args.vertices.now c.args.source c.if-v-vertices.false
