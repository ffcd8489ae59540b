use Rattle.std.proofs.Common.{◌≡◌, ◌<◌, ℕ, ℤ, List, [], map, length, refl, sym, ap, ◌∙◌, arith, subst, Vec, Global}
use Rattle.std.specs.Prelude.{slice_index_or}
use Rattle.std.proofs.lemmas.List.{with_items_is, get_or_default}
use Rattle.flat_graph.specs.declared.vertex.Kind.TheVariants.{Set}
use Rattle.flat_graph.specs.declared.vertex.Vertex.{Vertex}
use Rattle.flat_graph.specs.Meaning.{sensed}
use Rattle.flat_graph.proofs.ReadLens.{vertex_there}
use Rattle.sync_meaning.specs.Store.{lengths, lens_read, first_kept}
use Rattle.sync_meaning.specs.Reaction.{row_of, kept_in, Gives}
use Rattle.sync_meaning.proofs.Facts.{same_at, same_count, read_lens_is, own_cell, own_seen}
use Rattle.sync_meaning.proofs.Keeping.{beside, cells_same, cells_count}
use Rattle.sync_meaning.proofs.Operating.{set_stays, has_run}
use Rattle.sync_meaning.proofs.reaction.run_operation.Goals as goal
use Rattle.syn_base.specs.Vectors.{Vector, Values, vector_at}

pub returns-in-Set : goal.returns-in-Set
returns-in-Set c =
    let g = c.args.flat.now in
    let v = c.args.v in
    let x = c.index-vertices-at.result in
    let is = vertex_there c.vertices.result.now g.vertices v x c.vertices.ensures.same c.requires.there c.index-vertices-at.is in
    set_stays g (row_of c.args.rows.now c.args.k) v x c.args.store.now is c.vertices.ensures.valid (ap (λ (y : Vertex). y.kind) c.index-vertices-at.is ∙ c.in-Set.is) c.requires.fits

pub compute-requires : goal.compute-requires
compute-requires c =
    let g = c.args.flat.now in
    let v = c.args.v in
    let x = c.index-vertices-at.result in
    let row = row_of c.args.rows.now c.args.k in
    let cells = c.args.store.now.cells.items in
    let is = vertex_there c.vertices.result.now g.vertices v x c.vertices.ensures.same c.requires.there c.index-vertices-at.is in
    let count = cells_count g cells c.requires.fits.cells_fit in
    let lt : v < length cells = omega (arith, count, c.requires.there) in
    let other : x.kind ≡ Set → ⊥ = λ e. c.in_default.not-Set (ap (λ (y : Vertex). y.kind) (sym c.index-vertices-at.is) ∙ e) in
    let seen = c.seen_by-seen.ensures ∙ ap (λ (y : Vertex). sensed y.kind row) (sym c.index-vertices-at.is) in
    let long : length c.deref_mut.result.now ≡ length (first_kept x.kind) =
    ap (λ (w : Vector). length w) (c.deref_mut.ensures.value ∙ sym (beside cells v c.index_mut-2.result.now lt c.index_mut-2.ensures.value))
    ∙ same_at length (λ (y : Vertex). length (first_kept y.kind)) (kept_in c.args.store.now) g.vertices v x [] c.requires.fits.cells_fit is in
    record {
      there = c.requires.there;
      outs = c.requires.fits.outs_fit;
      read = ap lengths c.index_mut.ensures.value ∙ same_at lengths (lens_read g.vertices) c.args.store.now.reads.items g.vertices v x _ c.requires.fits.reads_fit is ∙ sym (read_lens_is g v x is);
      cell = own_cell g v x is c.deref_mut.result.now other long;
      seen = own_seen g v x is row c.seen_by-seen.result.now c.vertices.ensures.valid (c.requires.cut c.args.k c.requires.reaction ∙ c.requires.lens) seen;
    }

pub returns : goal.returns
returns c =
    let g = c.args.flat.now in
    let v = c.args.v in
    let x = c.index-vertices-at.result in
    let old = c.args.store.now in
    let row = row_of c.args.rows.now c.args.k in
    let cells = old.cells.items in
    let cell = c.index_mut-2.result.now in
    let is = vertex_there c.vertices.result.now g.vertices v x c.vertices.ensures.same c.requires.there c.index-vertices-at.is in
    let count = cells_count g cells c.requires.fits.cells_fit in
    let lt : v < length cells = omega (arith, count, c.requires.there) in
    let items = with_items_is cell c.compute.new.cell (let l = c.compute.auto.cell in let d = c.deref_mut.ensures.len in omega arith) in
    let other : x.kind ≡ Set → ⊥ = λ e. c.in_default.not-Set (ap (λ (y : Vertex). y.kind) (sym c.index-vertices-at.is) ∙ e) in
    let seen = c.seen_by-seen.ensures ∙ ap (λ (y : Vertex). sensed y.kind row) (sym c.index-vertices-at.is) in
    let stays = items ∙ c.compute.ensures.cell x is other ∙ c.deref_mut.ensures.value in
    let cell_is : c.deref_mut.result.now ≡ vector_at (kept_in old) v = c.deref_mut.ensures.value ∙ sym (beside cells v cell lt c.index_mut-2.ensures.value) in
    let gives : Gives g v (vector_at (kept_in old) v) (sensed x.kind row) old.table.items c.compute.new.table.items =
    subst (λ (w : Vector). Gives g v w (sensed x.kind row) old.table.items c.compute.new.table.items) cell_is
    (subst (λ (w : Vector). Gives g v c.deref_mut.result.now w old.table.items c.compute.new.table.items) seen c.compute.ensures.gives) in
    let long = same_count lengths (lens_read g.vertices) old.reads.items g.vertices c.requires.fits.reads_fit in
    let there : v < length old.reads.items = omega (arith, long, c.requires.there) in
    let same = c.compute.ensures.read ∙ ap lengths (c.index_mut.ensures.value ∙ get_or_default old.reads.items v _ [] there) in
    has_run g row v x old _ c.compute.new.read is c.requires.fits same refl gives (cells_same cells v cell lt c.index_mut-2.ensures.value _ stays)
