use Rattle.std.proofs.Common.{◌≡◌, ◌++◌, drop, get_or, false}
use Rattle.operation_desks.specs.RowLens.{lens_for}
use Rattle.operation_desks.proofs.opening.row_lens.Given as goal

abbrev pub invariant-loop-x : goal.invariant-loop-x
invariant-loop-x l = record {
  at : l.number ≡ l.x-index;
  lens : l.lens.items ++ lens_for l.flat (λ v. get_or l.mine v false) l.x-index (drop l.x-index l.flat.vertices) ≡ lens_for l.flat (λ v. get_or l.mine v false) 0 l.flat.vertices;
}
