use Rattle.std.proofs.Common.{[], length, take, drop, ap, sym, ◌∙◌}
use Rattle.std.specs.Prelude.{Option}
use Rattle.flat_graph.specs.declared.vertex.Vertex.{Vertex}
use Rattle.flat_graph.specs.Graph.{with_vertex}
use Rattle.flat_graph.specs.Valid.{fits}
use Rattle.flat_graph.specs.Fire.{kind_cell_len, fired, kept}
use Rattle.flat_graph.proofs.Facts.{vertex_valid, fits_of}
use Rattle.flat_graph.proofs.ReadLens.{vertex_there, short_outs, out_lens_is, seen_len_is, cell_len_is, read_count, first_lens}
use Rattle.flat_graph.proofs.operation.fire.Goals as goal

pub fire_vertex-requires-clause-fits : goal.fire_vertex-requires-clause-fits
fire_vertex-requires-clause-fits c =
    let g = c.args.flat.now in
    let x = c.index-vertices-v.result in
    let is = vertex_there c.vertices.result.now g.vertices c.args.v x c.vertices.ensures.same c.requires.vertex c.index-vertices-v.is in
    let first = first_lens g c.args.v x is c.args.ins.now c.requires.ins in
    (λ i. fits (c.bodies.ensures i) x.kind (first i) x.outs) ∙ fits_of g c.args.v x (vertex_valid g c.vertices.ensures.valid c.args.v x is)

pub fire_vertex-requires-clause-short : goal.fire_vertex-requires-clause-short
fire_vertex-requires-clause-short c =
    let g = c.args.flat.now in
    let x = c.index-vertices-v.result in
    let is = vertex_there c.vertices.result.now g.vertices c.args.v x c.vertices.ensures.same c.requires.vertex c.index-vertices-v.is in
    short_outs g c.args.v x (vertex_valid g c.vertices.ensures.valid c.args.v x is)

pub fire_vertex-requires-clause-ins : goal.fire_vertex-requires-clause-ins
fire_vertex-requires-clause-ins c =
    let g = c.args.flat.now in
    let x = c.index-vertices-v.result in
    let is = vertex_there c.vertices.result.now g.vertices c.args.v x c.vertices.ensures.same c.requires.vertex c.index-vertices-v.is in
    read_count g c.args.v x is c.args.ins.now c.requires.ins

pub fire_vertex-requires-clause-cell : goal.fire_vertex-requires-clause-cell
fire_vertex-requires-clause-cell c =
    let g = c.args.flat.now in
    let x = c.index-vertices-v.result in
    let is = vertex_there c.vertices.result.now g.vertices c.args.v x c.vertices.ensures.same c.requires.vertex c.index-vertices-v.is in
    let first = first_lens g c.args.v x is c.args.ins.now c.requires.ins in
    c.requires.cell ∙ cell_len_is g c.args.v x is ∙ ap (kind_cell_len x.kind) (sym first)

pub fire_vertex-requires-clause-row : goal.fire_vertex-requires-clause-row
fire_vertex-requires-clause-row c =
    let g = c.args.flat.now in
    let x = c.index-vertices-v.result in
    let is = vertex_there c.vertices.result.now g.vertices c.args.v x c.vertices.ensures.same c.requires.vertex c.index-vertices-v.is in
    c.requires.row ∙ seen_len_is g c.args.v x is

pub fire_vertex-requires-clause-outs : goal.fire_vertex-requires-clause-outs
fire_vertex-requires-clause-outs c =
    let g = c.args.flat.now in
    let x = c.index-vertices-v.result in
    let is = vertex_there c.vertices.result.now g.vertices c.args.v x c.vertices.ensures.same c.requires.vertex c.index-vertices-v.is in
    c.requires.outs ∙ out_lens_is g c.args.v x is

pub returns-clause-outs : goal.returns-clause-outs
returns-clause-outs c =
    let g = c.args.flat.now in
    let x = c.index-vertices-v.result in
    let read = c.args.ins.now in
    let is = vertex_there c.vertices.result.now g.vertices c.args.v x c.vertices.ensures.same c.requires.vertex c.index-vertices-v.is in
    c.fire_vertex.ensures.outs
    ∙ ap (λ bodies. fired bodies x c.args.cell.now c.args.row.now (drop (length x.ins) read) (take (length x.ins) read)) c.bodies.ensures
    ∙ sym (ap (λ (o : Option Vertex). with_vertex o [] (λ y. fired g.bodies y c.args.cell.now c.args.row.now (drop (length y.ins) read) (take (length y.ins) read))) is)

pub returns-clause-cell : goal.returns-clause-cell
returns-clause-cell c =
    let g = c.args.flat.now in
    let x = c.index-vertices-v.result in
    let read = c.args.ins.now in
    let is = vertex_there c.vertices.result.now g.vertices c.args.v x c.vertices.ensures.same c.requires.vertex c.index-vertices-v.is in
    c.fire_vertex.ensures.cell ∙ sym (ap (λ (o : Option Vertex). with_vertex o c.args.cell.now (λ y. kept y c.args.cell.now (drop (length y.ins) read) (take (length y.ins) read))) is)
