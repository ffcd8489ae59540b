use Rattle.std.proofs.Common.{◌≡◌, ◌≤◌, true, false, arith, length, sym, ap, ap₂, ◌∙◌, subst}
use Rattle.std.specs.Prelude.{Option, slice_get}
use Rattle.flat_graph.specs.declared.vertex.Vertex.{Vertex}
use Rattle.flat_graph.specs.Graph.{with_vertex}
use Rattle.flat_graph.specs.Fire.{guards_hold}
use Rattle.flat_graph.specs.Meaning.{conditions, inputs}
use Rattle.flat_graph.proofs.ReadLens.{vertex_there}
use Rattle.syn_base.specs.Vectors.{vector_at}
use Rattle.graph_code.specs.Places.{value_at, width_of}
use Rattle.graph_code.specs.Compiled.{IsOperation}
use Rattle.graph_code.specs.Fired.{rows_of}
use Rattle.graph_code.proofs.Ready.{condition_count, condition_rows, conditions_below, fired_active, fired_zeros, operation_at, ready}
use Rattle.graph_code.proofs.graph.GraphCode.fire.Goals as goal

pub are_holding-requires-clause-count : goal.are_holding-requires-clause-count
are_holding-requires-clause-count c =
    let g = c.args.flat.now in
    let v = c.args.v in
    let store = c.args.store.now in
    let x = c.index-vertices-at.result in
    let o = c.index-operation.result.now in
    let is = vertex_there c.vertices.result.now g.vertices v x c.vertices.ensures.same c.requires.there c.index-vertices-at.is in
    let op = operation_at g c.args.self.now.room c.args.self.now.operations.items v x o c.requires.code.operations is c.index-operation.ensures in
    rw (c.deref.ensures.value, c.as_slice.ensures) (condition_count g c.args.self.now.room v x o op store)

pub are_holding-requires-clause-within : goal.are_holding-requires-clause-within
are_holding-requires-clause-within c =
    let g = c.args.flat.now in
    let v = c.args.v in
    let store = c.args.store.now in
    let x = c.index-vertices-at.result in
    let o = c.index-operation.result.now in
    let is = vertex_there c.vertices.result.now g.vertices v x c.vertices.ensures.same c.requires.there c.index-vertices-at.is in
    let op = operation_at g c.args.self.now.room c.args.self.now.operations.items v x o c.requires.code.operations is c.index-operation.ensures in
    let wide : width_of g.vertices ≤ length store = omega (arith, c.requires.code.width, c.requires.store) in
    rw c.deref.ensures.value (conditions_below g c.args.self.now.room v x o op store wide)

pub fire_active-requires : goal.fire_active-requires
fire_active-requires c =
    let g = c.args.flat.now in
    let v = c.args.v in
    let store = c.args.store.now in
    let x = c.index-vertices-at.result in
    let o = c.index-operation.result.now in
    let is = vertex_there c.vertices.result.now g.vertices v x c.vertices.ensures.same c.requires.there c.index-vertices-at.is in
    let op = operation_at g c.args.self.now.room c.args.self.now.operations.items v x o c.requires.code.operations is c.index-operation.ensures in
    let wide : width_of g.vertices ≤ length store = omega (arith, c.requires.code.width, c.requires.store) in
    let here : IsOperation g (length store) v x o = subst (λ n. IsOperation g n v x o) (sym c.requires.store) op in
    let ok = ready g c.vertices.ensures.valid v x is o c.args.cell.now c.args.seen.now store here c.requires.cell c.requires.seen wide in
    ok

pub put_zeros-requires : goal.put_zeros-requires
put_zeros-requires c =
    let g = c.args.flat.now in
    let v = c.args.v in
    let store = c.args.store.now in
    let x = c.index-vertices-at.result in
    let o = c.index-operation.result.now in
    let is = vertex_there c.vertices.result.now g.vertices v x c.vertices.ensures.same c.requires.there c.index-vertices-at.is in
    let op = operation_at g c.args.self.now.room c.args.self.now.operations.items v x o c.requires.code.operations is c.index-operation.ensures in
    let wide : width_of g.vertices ≤ length store = omega (arith, c.requires.code.width, c.requires.store) in
    let here : IsOperation g (length store) v x o = subst (λ n. IsOperation g n v x o) (sym c.requires.store) op in
    let ok = ready g c.vertices.ensures.valid v x is o c.args.cell.now c.args.seen.now store here c.requires.cell c.requires.seen wide in
    omega (arith, ok.to_fits, ok.fits)

pub returns-then-are_holding : goal.returns-then-are_holding
returns-then-are_holding c =
    let g = c.args.flat.now in
    let v = c.args.v in
    let store = c.args.store.now in
    let x = c.index-vertices-at.result in
    let o = c.index-operation.result.now in
    let is = vertex_there c.vertices.result.now g.vertices v x c.vertices.ensures.same c.requires.there c.index-vertices-at.is in
    let op = operation_at g c.args.self.now.room c.args.self.now.operations.items v x o c.requires.code.operations is c.index-operation.ensures in
    let wide : width_of g.vertices ≤ length store = omega (arith, c.requires.code.width, c.requires.store) in
    let here : IsOperation g (length store) v x o = subst (λ n. IsOperation g n v x o) (sym c.requires.store) op in
    let ok = ready g c.vertices.ensures.valid v x is o c.args.cell.now c.args.seen.now store here c.requires.cell c.requires.seen wide in
    let same = ap₂ guards_hold c.as_slice.ensures (ap (rows_of store) c.deref.ensures.value ∙ condition_rows g c.args.self.now.room v x o op store) in
    fired_active g c.args.self.now.room v x o c.args.cell.now c.args.seen.now store c.fire_active.new.store is op wide ok
    (sym same ∙ sym c.are_holding.ensures ∙ c.if-are_holding.true) c.fire_active.ensures

pub returns-else-are_holding : goal.returns-else-are_holding
returns-else-are_holding c =
    let g = c.args.flat.now in
    let v = c.args.v in
    let store = c.args.store.now in
    let x = c.index-vertices-at.result in
    let o = c.index-operation.result.now in
    let is = vertex_there c.vertices.result.now g.vertices v x c.vertices.ensures.same c.requires.there c.index-vertices-at.is in
    let op = operation_at g c.args.self.now.room c.args.self.now.operations.items v x o c.requires.code.operations is c.index-operation.ensures in
    let wide : width_of g.vertices ≤ length store = omega (arith, c.requires.code.width, c.requires.store) in
    let same = ap₂ guards_hold c.as_slice.ensures (ap (rows_of store) c.deref.ensures.value ∙ condition_rows g c.args.self.now.room v x o op store) in
    fired_zeros g c.args.self.now.room v x o c.args.cell.now c.args.seen.now store c.put_zeros.new.store is op wide (sym same ∙ sym c.are_holding.ensures ∙ c.if-are_holding.false) c.put_zeros.ensures
