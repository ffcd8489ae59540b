use Rattle.std.proofs.Common.{◌≡◌, arith, map, ap, ◌∙◌, sym, subst}
use Rattle.std.specs.Prelude.{All}
use Rattle.flat_graph.specs.Expr.{view}
use Rattle.flat_graph.proofs.ReadLens.{vertex_there}
use Rattle.graph_code.proofs.Compiling.{body_fits, body_is, body_long, code_for, has_body, if_ok, no_code, spans_below}
use Rattle.graph_code.proofs.operation.compile_outputs.Goals as goal

pub bounds-bodies-body : goal.bounds-bodies-body
bounds-bodies-body c =
    let g = c.args.flat.now in
    let x = c.index-vertices-v.result in
    let is = vertex_there c.vertices.result.now g.vertices c.args.v x c.vertices.ensures.same c.requires.there c.index-vertices-v.is in
    rw c.bodies.ensures (has_body g c.args.v x c.in-Function.body c.vertices.ensures.valid is c.in-Function.is)

pub compile_body-requires-clause-body : goal.compile_body-requires-clause-body
compile_body-requires-clause-body c =
    let g = c.args.flat.now in
    let x = c.index-vertices-v.result in
    let is = vertex_there c.vertices.result.now g.vertices c.args.v x c.vertices.ensures.same c.requires.there c.index-vertices-v.is in
    let body = c.index-bodies-body.result in
    let same = rw c.bodies.ensures at c.index-bodies-body.is in
    rw c.as_slice.ensures (body_long g c.args.v x c.in-Function.body c.vertices.ensures.valid is c.in-Function.is body same c.outputs-body.result.now c.outputs-body.ensures)

pub compile_body-requires-clause-ports : goal.compile_body-requires-clause-ports
compile_body-requires-clause-ports c =
    let g = c.args.flat.now in
    let x = c.index-vertices-v.result in
    let is = vertex_there c.vertices.result.now g.vertices c.args.v x c.vertices.ensures.same c.requires.there c.index-vertices-v.is in
    let body = c.index-bodies-body.result in
    let same = rw c.bodies.ensures at c.index-bodies-body.is in
    body_fits g c.args.v x c.in-Function.body c.vertices.ensures.valid is c.in-Function.is body same c.outputs-body.result.now c.outputs-body.ensures c.args.inputs.now (c.requires.inputs x is)

pub compile_body-requires-clause-below : goal.compile_body-requires-clause-below
compile_body-requires-clause-below c =
    let g = c.args.flat.now in
    let x = c.index-vertices-v.result in
    let is = vertex_there c.vertices.result.now g.vertices c.args.v x c.vertices.ensures.same c.requires.there c.index-vertices-v.is in
    rw (c.requires.inputs x is, c.requires.values) (spans_below g.vertices x.ins)

pub returns-in-Function-clause-outputs : goal.returns-in-Function-clause-outputs
returns-in-Function-clause-outputs c =
    let g = c.args.flat.now in
    let x = c.index-vertices-v.result in
    let is = vertex_there c.vertices.result.now g.vertices c.args.v x c.vertices.ensures.same c.requires.there c.index-vertices-v.is in
    let body = c.index-bodies-body.result in
    let same = rw c.bodies.ensures at c.index-bodies-body.is in
    let whole = c.outputs-body.ensures ∙ body_is g c.args.v x c.in-Function.body c.vertices.ensures.valid is c.in-Function.is body same c.outputs-body.result.now c.outputs-body.ensures in
    if_ok _ _ c.compile_body.result _ _
    (λ os are. code_for g c.compile_body.new.sizes.all c.args.v x c.in-Function.body c.args.inputs.now c.args.start
    c.compile_body.new.sizes.values c.as_slice.result.now (map view c.outputs-body.result.now) os.items is c.in-Function.is
    (c.compile_body.ensures.values ∙ c.requires.values) c.as_slice.ensures whole are)
    c.compile_body.ensures.outputs
