-- One more operation.
use Rattle.std.proofs.Common.{◌≡◌, ◌∙◌, ℕ, List, Some, refl, false, get_or, sym, ap, arith}
use Rattle.std.specs.Prelude.{slice_get}
use Rattle.std.proofs.lemmas.Option.{slice_get_read}
use Rattle.executive_program.specs.declared.Vertex.{Vertex}
use Rattle.operation_desks.specs.RowLens.{lens_for}
use Rattle.operation_desks.proofs.MoreRows.{lens_more}
use Rattle.operation_desks.proofs.opening.row_lens.Goals as goal

pub loop-x-preserved : goal.loop-x-preserved
loop-x-preserved c =
    let vs = c.args.flat.now.vertices in
    let k = c.loop-x.x-index in
    let x = c.x-item.result in
    let s : slice_get vs k ≡ Some x = ap (λ (l : List Vertex). slice_get l k) (sym c.vertices-x-items.ensures.same)
    ∙ slice_get_read c.vertices-x-items.result.now _ k x refl c.loop-x-test.true c.x-item.is in
    record {
      at = let a = c.loop-x.invariant.at in omega arith;
      lens = lens_more c.args.flat.now
          (λ v. get_or c.args.mine.now v false) vs k x c.is_mine.result c.loop-x.lens.items c.push_row_len.new.lens.items
          (lens_for c.args.flat.now (λ v. get_or c.args.mine.now v false) 0 vs) s
          (c.is_mine.ensures ∙ ap (λ (n : ℕ). get_or c.args.mine.now n false) c.loop-x.invariant.at) c.in_ok-push_row_len.ensures c.loop-x.invariant.lens;
    }
