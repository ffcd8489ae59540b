use Rattle.std.proofs.Common.{◌≡◌, ◌<◌, ◌++◌, List, [], map, length, refl, sym, ap, ◌∙◌, arith}
use Rattle.flat_graph.specs.declared.vertex.Vertex.{Vertex}
use Rattle.flat_graph.specs.Meaning.{conditions, inputs}
use Rattle.flat_graph.proofs.Facts.{vertex_valid}
use Rattle.flat_graph.proofs.ReadLens.{vertex_there, out_lens_is}
use Rattle.sync_meaning.specs.Store.{lengths, lens_read, value_at, given}
use Rattle.sync_meaning.proofs.Facts.{same_at, same_count, read_lens_is, reads_are, input_lens, fired_lens, fired_is}
use Rattle.sync_meaning.proofs.Operating.{gives}
use Rattle.sync_meaning.proofs.reaction.compute.Goals as goal
use Rattle.syn_base.specs.Vectors.{Values}

pub read_values-requires : goal.read_values-requires
read_values-requires c =
    let g = c.args.flat.now in
    let x = c.index-vertices-at.result in
    let is = vertex_there c.vertices.result.now g.vertices c.args.v x c.vertices.ensures.same c.requires.there c.index-vertices-at.is in
    let lens : lens_read g.vertices x ≡ lengths (inputs (value_at c.deref.result.now) x) ++ lengths (conditions (value_at c.deref.result.now) x) =
    rw c.deref.ensures.value (reads_are g c.args.table.now.items c.args.v x c.requires.outs (vertex_valid g c.vertices.ensures.valid c.args.v x is)) in
    c.requires.read ∙ read_lens_is g c.args.v x is ∙ lens

pub fire-requires-clause-outs : goal.fire-requires-clause-outs
fire-requires-clause-outs c =
    let g = c.args.flat.now in
    let x = c.index-vertices-at.result in
    let is = vertex_there c.vertices.result.now g.vertices c.args.v x c.vertices.ensures.same c.requires.there c.index-vertices-at.is in
    ap lengths c.index_mut.ensures.value ∙ same_at lengths (λ (y : Vertex). y.outs) c.args.table.now.items g.vertices c.args.v x _ c.requires.outs is ∙ sym (out_lens_is g c.args.v x is)

pub returns-clause-gives : goal.returns-clause-gives
returns-clause-gives c =
    let g = c.args.flat.now in
    let v = c.args.v in
    let x = c.index-vertices-at.result in
    let old = c.args.table.now.items in
    let is = vertex_there c.vertices.result.now g.vertices v x c.vertices.ensures.same c.requires.there c.index-vertices-at.is in
    let has = rw c.deref.ensures.value at c.read_values.ensures.values in
    let count = same_count lengths (λ (y : Vertex). y.outs) old g.vertices c.requires.outs in
    let lt : v < length old = omega (arith, count, c.requires.there) in
    let fit : lengths c.fire.new.outs ≡ lengths (given old v) =
    ap lengths (c.fire.ensures.outs ∙ fired_is g v x is (value_at old) c.args.cell.now c.args.seen.now c.read_values.new.read has)
    ∙ fired_lens g v x is c.vertices.ensures.valid c.args.cell.now c.args.seen.now c.requires.cell c.requires.seen
    (conditions (value_at old) x) (inputs (value_at old) x) (input_lens g.vertices old c.requires.outs x.ins)
    ∙ sym (same_at lengths (λ (y : Vertex). y.outs) old g.vertices v x [] c.requires.outs is) in
    gives g v x c.args.cell.now c.args.seen.now c.read_values.new.read old _ c.fire.new.outs is lt has c.fire.ensures.outs fit refl
