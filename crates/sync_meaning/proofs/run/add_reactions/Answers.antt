use Rattle.std.proofs.Common.{◌≡◌, ℤ, List, ℕ, length, sum, sym, ap, ◌∙◌}
use Rattle.syn_base.specs.Rows.{Reactions, cut}
use Rattle.sync_meaning.proofs.Running.{row_length, row_cut, next_reached, one_more}
use Rattle.sync_meaning.proofs.run.add_reactions.Goals as goal

pub push-requires : goal.push-requires
push-requires c =
    let g = c.args.flat.now in
    let l = c.loop-k in
    let xs = c.in_ok-row.row.items in
    let is = rw (c.deref.ensures.value, c.vertices-vertices.ensures.same) at c.in_ok-row.ensures in
    let lens = ap (λ (t : Reactions). t.lens) l.invariant.taken in
    ap (λ (ys : List ℤ). length ys) c.deref-in-loop-k.ensures.value
    ∙ row_length g c.args.rows.now l.k l.store c.fire_all.new.store c.vertices-vertices.ensures.valid l.invariant.reached c.fire_all.ensures xs l.taken.lens is lens

pub loop-k-preserved : goal.loop-k-preserved
loop-k-preserved c =
    let g = c.args.flat.now in
    let rows = c.args.rows.now in
    let l = c.loop-k in
    let mid = c.fire_all.new.store in
    let valid = c.vertices-vertices.ensures.valid in
    let xs = c.in_ok-row.row.items in
    let is = rw (c.deref.ensures.value, c.vertices-vertices.ensures.same) at c.in_ok-row.ensures in
    let lens = ap (λ (t : Reactions). t.lens) l.invariant.taken in
    let row = ap (cut l.taken.lens) c.deref-in-loop-k.ensures.value ∙ row_cut g rows l.k l.store mid valid l.invariant.reached c.fire_all.ensures xs l.taken.lens is lens in
    record {
      fits = c.keep_all.ensures.fits;
      reached = next_reached g rows l.k l.store mid valid l.invariant.reached c.fire_all.ensures c.keep_all.new.store c.keep_all.ensures;
      taken = one_more g rows l.k l.taken _ (cut l.taken.lens c.deref-in-loop-k.result.now) l.invariant.taken row c.in_ok-push.ensures.ok;
    }
