use Rattle.std.proofs.Common.{◌≡◌, ◌≤◌, ◌<◌, true, false, arith, length, [], sym, ap, ap₂, ◌∙◌, subst}
use Rattle.std.specs.Prelude.{Option, slice_get}
use Rattle.flat_graph.specs.Graph.{with_vertex}
use Rattle.flat_graph.specs.Fire.{guards_hold}
use Rattle.flat_graph.specs.Meaning.{conditions, inputs}
use Rattle.flat_graph.proofs.ReadLens.{vertex_there}
use Rattle.syn_base.specs.Vectors.{vector_at}
use Rattle.graph_code.specs.Places.{value_at, width_of}
use Rattle.graph_code.specs.Compiled.{IsOperation}
use Rattle.graph_code.specs.Fired.{rows_of}
use Rattle.flat_graph.specs.declared.vertex.Vertex.{Vertex}
use Rattle.graph_code.proofs.Ready.{input_inside, input_long, input_row, operation_at, some_at}
use Rattle.graph_code.proofs.graph.GraphCode.input.Goals as goal

pub index-requires-2 : goal.index-requires-2
index-requires-2 c =
    let g = c.args.flat.now in
    let v = c.args.v in
    let store = c.args.store.now in
    let there = some_at g.vertices v c.requires.there in
    let x = there.0 in
    let is = there.1 in
    let o = c.index.result.now in
    let op = operation_at g c.args.self.now.room c.args.self.now.operations.items v x o c.requires.code.operations is c.index.ensures in
    let l : c.args.k < length x.ins = (let e = ap (λ (p : Option Vertex). with_vertex p 0 (λ y. length y.ins)) is in omega (arith, c.requires.input, e)) in
    omega (arith, l, input_long g c.args.self.now.room v x o op store)

pub row_at-requires : goal.row_at-requires
row_at-requires c =
    let g = c.args.flat.now in
    let v = c.args.v in
    let store = c.args.store.now in
    let there = some_at g.vertices v c.requires.there in
    let x = there.0 in
    let is = there.1 in
    let o = c.index.result.now in
    let op = operation_at g c.args.self.now.room c.args.self.now.operations.items v x o c.requires.code.operations is c.index.ensures in
    let l : c.args.k < length x.ins = (let e = ap (λ (p : Option Vertex). with_vertex p 0 (λ y. length y.ins)) is in omega (arith, c.requires.input, e)) in
    let wide : width_of g.vertices ≤ length store = omega (arith, c.requires.code.width, c.requires.store) in
    input_inside g c.args.self.now.room v x o op store c.args.k c.index-2.result.now l c.index-2.ensures wide

pub returns : goal.returns
returns c =
    let g = c.args.flat.now in
    let v = c.args.v in
    let store = c.args.store.now in
    let there = some_at g.vertices v c.requires.there in
    let x = there.0 in
    let is = there.1 in
    let o = c.index.result.now in
    let op = operation_at g c.args.self.now.room c.args.self.now.operations.items v x o c.requires.code.operations is c.index.ensures in
    let l : c.args.k < length x.ins = (let e = ap (λ (p : Option Vertex). with_vertex p 0 (λ y. length y.ins)) is in omega (arith, c.requires.input, e)) in
    c.row_at.ensures ∙ input_row g c.args.self.now.room v x o op store c.args.k c.index-2.result.now l c.index-2.ensures
    ∙ sym (ap (λ (p : Option Vertex). with_vertex p [] (λ y. vector_at (inputs (value_at g.vertices store) y) c.args.k)) is)
