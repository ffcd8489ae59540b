use Rattle.std.proofs.Common.{◌≡◌, ◌<◌, ◌≤◌, ℕ, List, length, take, refl, sym, ap, ◌∙◌, arith, subst}
use Rattle.std.specs.Prelude.{slice_index_or}
use Rattle.std.proofs.lemmas.List.{take_all}
use Rattle.flat_graph.specs.declared.vertex.Vertex.{Vertex}
use Rattle.flat_graph.specs.Fire.{fired}
use Rattle.flat_graph.specs.Meaning.{sensed, conditions, inputs}
use Rattle.sync_meaning.specs.Store.{lengths, value_at, delay_cells}
use Rattle.sync_meaning.specs.Reaction.{row_of, kept_in}
use Rattle.sync_meaning.proofs.Facts.{same_count}
use Rattle.sync_meaning.proofs.Table.{AreRight, right_more, all_right}
use Rattle.sync_meaning.proofs.reaction.fire_all.Goals as goal
use Rattle.syn_base.specs.Vectors.{Values, vector_at}

pub loop-v-preserved : goal.loop-v-preserved
loop-v-preserved c =
    let g = c.args.flat.now in
    let l = c.loop-v in
    let row = row_of c.args.rows.now c.args.k in
    let kept = kept_in c.args.store.now in
    let order = c.args.order.now in
    let i = l.v-index in
    let v = slice_index_or order i 0 in
    let ran = c.run_operation.ensures in
    record {
      fits = ran.fits;
      cells = ran.cells ∙ l.invariant.cells;
      right = right_more g row kept c.requires.valid order i v l.store.table.items c.run_operation.new.store.table.items c.loop-v-test.true
          refl (c.requires.order.each i c.loop-v-test.true) l.invariant.right
          (λ x is. ran.here x is ∙ ap (λ (cs : Values). fired g.bodies x (vector_at cs v) (sensed x.kind row)
          (conditions (value_at l.store.table.items) x) (inputs (value_at l.store.table.items) x)) l.invariant.cells)
          ran.others;
    }

pub returns : goal.returns
returns c =
    let g = c.args.flat.now in
    let l = c.loop-v in
    let row = row_of c.args.rows.now c.args.k in
    let cells = delay_cells g.vertices (kept_in c.args.store.now) in
    let order = c.args.order.now in
    let whole : take l.v-index order ≡ order = take_all l.v-index order (omega arith) in
    record {
      fits = l.invariant.fits;
      cells = l.invariant.cells;
      gives = all_right g cells row order l.store.table.items (same_count lengths (λ (x : Vertex). x.outs) l.store.table.items g.vertices l.invariant.fits.outs_fit) c.requires.order.all
          (subst (λ (us : List ℕ). AreRight g cells row us l.store.table.items) whole l.invariant.right);
    }
