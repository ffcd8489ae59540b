use Rattle.std.proofs.Common.{◌≡◌, ◌≤◌, ◌-◌, ◌*◌, ◌^◌, take}
use Rattle.std.specs.List.{sum_by}
use Rattle.algo_tree.specs.View.{vertices_view}
use Rattle.multi_period.specs.Within.{adds}
use Rattle.multi_period.proofs.count.added.Given as goal

abbrev pub invariant-loop-mark : goal.invariant-loop-mark
invariant-loop-mark l = record {
  is : l.sum ≡ sum_by (adds (vertices_view l.vertices)) (take l.mark-index l.marks);
  small : l.sum ≤ l.mark-index * (2 ^ 65 - 1);
}
