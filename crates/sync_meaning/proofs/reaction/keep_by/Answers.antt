use Rattle.std.proofs.Common.{◌≡◌, ◌∷◌, [], ℕ, length, sym, ap, ◌∙◌, subst}
use Rattle.std.specs.Prelude.{Option, Some, slice_get}
use Rattle.flat_graph.specs.declared.vertex.Vertex.{Vertex}
use Rattle.flat_graph.specs.declared.vertex.Kind.TheVariants.{Set}
use Rattle.flat_graph.specs.Meaning.{inputs, next_cell}
use Rattle.flat_graph.proofs.ReadLens.{element_there}
use Rattle.sync_meaning.specs.Store.{lengths, value_at}
use Rattle.sync_meaning.proofs.Facts.{in_range, same_vertex}
use Rattle.sync_meaning.proofs.Keeping.{next_by}
use Rattle.sync_meaning.proofs.reaction.keep_by.Goals as goal

pub bounds-vertices-twin : goal.bounds-vertices-twin
bounds-vertices-twin c =
    let has = c.requires c.in-Some.twin c.in-Some.is in
    in_range c.args.vertices.now c.in-Some.twin has.at has.is

pub keep-requires-clause-kind : goal.keep-requires-clause-kind
keep-requires-clause-kind c =
    let t = c.in-Some.twin in
    let y = c.index-vertices-twin.result in
    let has = c.requires t c.in-Some.is in
    let is = element_there c.args.vertices.now t y (in_range c.args.vertices.now t has.at has.is) c.index-vertices-twin.is in
    let same = same_vertex (slice_get c.args.vertices.now t) has.at y has.is is in
    subst (λ (x : Vertex). x.kind ≡ Set) same has.kind

pub keep-requires-clause-ins : goal.keep-requires-clause-ins
keep-requires-clause-ins c =
    let t = c.in-Some.twin in
    let y = c.index-vertices-twin.result in
    let has = c.requires t c.in-Some.is in
    let is = element_there c.args.vertices.now t y (in_range c.args.vertices.now t has.at has.is) c.index-vertices-twin.is in
    let same = same_vertex (slice_get c.args.vertices.now t) has.at y has.is is in
    subst (λ (x : Vertex). lengths (inputs (value_at c.args.table.now) x) ≡ length c.args.cell.now ∷ []) same has.ins

pub returns-in-Some : goal.returns-in-Some
returns-in-Some c =
    let t = c.in-Some.twin in
    let y = c.index-vertices-twin.result in
    let has = c.requires t c.in-Some.is in
    let look = value_at c.args.table.now in
    let is = element_there c.args.vertices.now t y (in_range c.args.vertices.now t has.at has.is) c.index-vertices-twin.is in
    c.keep.ensures ∙ sym (next_by c.args.vertices.now look t y c.args.cell.now is) ∙ ap (λ (o : Option ℕ). next_cell c.args.vertices.now look o c.args.cell.now) (sym c.in-Some.is)
