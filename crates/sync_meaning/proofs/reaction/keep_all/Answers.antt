use Rattle.std.proofs.Common.{◌≡◌, ◌<◌, ◌≤◌, List, length, sym, ap, ◌∙◌, arith}
use Rattle.std.proofs.lemmas.List.{length-map}
use Rattle.flat_graph.specs.declared.vertex.Vertex.{Vertex}
use Rattle.sync_meaning.specs.Store.{value_at}
use Rattle.sync_meaning.specs.Reaction.{kept_in, KeepsAt}
use Rattle.sync_meaning.proofs.Facts.{some_at}
use Rattle.sync_meaning.proofs.Keeping.{cells_count, kept_more, all_more}
use Rattle.sync_meaning.proofs.reaction.keep_all.Goals as goal

pub loop-v-preserved : goal.loop-v-preserved
loop-v-preserved c =
    let g = c.args.flat.now in
    let l = c.loop-v in
    let old = c.args.store.now in
    let look = value_at old.table.items in
    let lt : l.v < length g.vertices = let same = ap (λ (xs : List Vertex). length xs) c.vertices-v-end.ensures.same in omega (arith, same) in
    let x = some_at g.vertices l.v lt in
    let count : length (kept_in old) ≡ length g.vertices = length-map old.cells.items (λ d. d.items) ∙ cells_count g old.cells.items c.requires.cells_fit in
    let kept = rw (c.deref.ensures.value, l.invariant.table) at c.keep_at.ensures.kept in
    record {
      fits = record { reads_fit = l.invariant.fits.reads_fit; outs_fit = l.invariant.fits.outs_fit; cells_fit = c.keep_at.ensures.fits };
      table = l.invariant.table;
      cells = kept_more g.vertices look (kept_in old) l.v x.0 (kept_in l.store) _ count lt x.1 l.invariant.cells (kept x.0 x.1);
    }

pub returns : goal.returns
returns c =
    let g = c.args.flat.now in
    let l = c.loop-v in
    let old = c.args.store.now in
    let count : length (kept_in old) ≡ length g.vertices = length-map old.cells.items (λ d. d.items) ∙ cells_count g old.cells.items c.requires.cells_fit in
    let le : length g.vertices ≤ l.v = let same = ap (λ (xs : List Vertex). length xs) c.vertices-v-end.ensures.same in omega (arith, same) in
    record { fits = l.invariant.fits; table = l.invariant.table; cells = l.invariant.cells ∙ all_more g.vertices (value_at old.table.items) (kept_in old) l.v count le }
