use Rattle.std.proofs.Common.{◌≡◌, ◌<◌, ℕ, ℤ, List, [], map, length, set, sym, ap, ◌∙◌, arith, Vec, Global}
use Rattle.std.specs.Prelude.{slice_get}
use Rattle.std.proofs.lemmas.List.{with_items_is, set-get_or}
use Rattle.flat_graph.specs.declared.vertex.Vertex.{Vertex}
use Rattle.flat_graph.specs.Meaning.{next_cell}
use Rattle.flat_graph.proofs.ReadLens.{vertex_there}
use Rattle.sync_meaning.specs.Store.{first_kept, value_at, HasSetHalf}
use Rattle.sync_meaning.specs.Reaction.{next_kept}
use Rattle.sync_meaning.proofs.Facts.{same_at, same_vertex}
use Rattle.sync_meaning.proofs.Keeping.{set_half, next_is, next_not, beside, cells_set, lengths_set, cells_count}
use Rattle.sync_meaning.proofs.reaction.keep_at.Goals as goal
use Rattle.syn_base.specs.Vectors.{Vector, Values, vector_at}

pub keep_by-requires : goal.keep_by-requires
keep_by-requires c t twin =
    let g = c.args.flat.now in
    let v = c.args.v in
    let x = c.index-vertices-v.result in
    let table = c.args.table.now in
    let cells = c.args.cells.now.items in
    let cell = c.index_mut.result.now in
    let z = c.in-Get.field-0 in
    let is = vertex_there c.vertices-vertices.result.now g.vertices v x c.vertices-vertices.ensures.same c.requires.there c.index-vertices-v.is in
    let count = cells_count g cells c.requires.cells in
    let lt : v < length cells = omega (arith, count, c.requires.there) in
    let long : length c.deref_mut.result.now ≡ length z =
    ap (λ (w : Vector). length w) (c.deref_mut.ensures.value ∙ sym (beside cells v cell lt c.index_mut.ensures.value))
    ∙ same_at length (λ (y : Vertex). length (first_kept y.kind)) (map (λ (d : Vec ℤ Global). d.items) cells) g.vertices v x [] c.requires.cells is
    ∙ ap (λ k. length (first_kept k)) c.in-Get.is in
    let has : HasSetHalf g.vertices table (length z) t = set_half g table v t x z c.vertices-vertices.ensures.valid c.requires.outs is c.in-Get.is twin in
    rw (c.vertices-vertices.ensures.same, long) has

pub returns-in-Get-clause-kept : goal.returns-in-Get-clause-kept
returns-in-Get-clause-kept c y at =
    let g = c.args.flat.now in
    let v = c.args.v in
    let x = c.index-vertices-v.result in
    let look = value_at c.args.table.now in
    let cells = c.args.cells.now.items in
    let cell = c.index_mut.result.now in
    let is = vertex_there c.vertices-vertices.result.now g.vertices v x c.vertices-vertices.ensures.same c.requires.there c.index-vertices-v.is in
    let count = cells_count g cells c.requires.cells in
    let lt : v < length cells = omega (arith, count, c.requires.there) in
    let flat_cells = map (λ (d : Vec ℤ Global). d.items) cells in
    let old = beside cells v cell lt c.index_mut.ensures.value in
    let items = with_items_is cell c.keep_by.new.cell (let l = c.keep_by.auto.cell in let d = c.deref_mut.ensures.len in omega arith) in
    let value : c.keep_by.new.cell ≡ next_kept g.vertices look y (vector_at flat_cells v) =
    c.keep_by.ensures
    ∙ ap (λ (xs : List Vertex). next_cell xs look x.twin c.deref_mut.result.now) c.vertices-vertices.ensures.same
    ∙ sym (next_is g.vertices look x c.in-Get.field-0 c.deref_mut.result.now c.in-Get.is)
    ∙ ap (next_kept g.vertices look x) (c.deref_mut.ensures.value ∙ sym old)
    ∙ ap (λ (w : Vertex). next_kept g.vertices look w (vector_at flat_cells v)) (same_vertex (slice_get g.vertices v) x y is at) in
    cells_set cells v cell lt c.index_mut.ensures.value _ ∙ ap (λ (w : Vector). set flat_cells v w) (items ∙ value)

pub returns-in-Get-clause-fits : goal.returns-in-Get-clause-fits
returns-in-Get-clause-fits c =
    let g = c.args.flat.now in
    let v = c.args.v in
    let cells = c.args.cells.now.items in
    let cell = c.index_mut.result.now in
    let count = cells_count g cells c.requires.cells in
    let lt : v < length cells = omega (arith, count, c.requires.there) in
    let items = with_items_is cell c.keep_by.new.cell (let l = c.keep_by.auto.cell in let d = c.deref_mut.ensures.len in omega arith) in
    let same : length c.keep_by.new.cell ≡ length cell.items = c.keep_by.auto.cell ∙ ap (λ (w : Vector). length w) c.deref_mut.ensures.value in
    lengths_set cells v cell lt c.index_mut.ensures.value _ (ap (λ (w : Vector). length w) items ∙ same) ∙ c.requires.cells

pub returns-in_default : goal.returns-in_default
returns-in_default c =
    let g = c.args.flat.now in
    let v = c.args.v in
    let x = c.index-vertices-v.result in
    let look = value_at c.args.table.now in
    let flat_cells = map (λ (d : Vec ℤ Global). d.items) c.args.cells.now.items in
    let is = vertex_there c.vertices-vertices.result.now g.vertices v x c.vertices-vertices.ensures.same c.requires.there c.index-vertices-v.is in
    record {
      kept = λ y at.
          let stays : next_kept g.vertices look y (vector_at flat_cells v) ≡ vector_at flat_cells v =
          ap (λ (w : Vertex). next_kept g.vertices look w (vector_at flat_cells v)) (sym (same_vertex (slice_get g.vertices v) x y is at))
          ∙ next_not g.vertices look x (vector_at flat_cells v) c.in_default.not-Get in
          sym (ap (λ (w : Vector). set flat_cells v w) stays ∙ set-get_or flat_cells v []);
      fits = c.requires.cells;
    }
