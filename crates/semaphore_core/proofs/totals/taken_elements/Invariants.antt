use Rattle.std.proofs.Common.{◌≡◌, ◌*◌, ◌^◌, ◌≤◌, take}
use Rattle.std.specs.List.{sum_by}
use Rattle.semaphore_core.specs.Totals.{taken_by}
use Rattle.semaphore_core.proofs.totals.taken_elements.Given as goal

abbrev pub invariant-loop-x : goal.invariant-loop-x
invariant-loop-x l = record {
  sum_is : l.total ≡ sum_by (taken_by l.flat) (take l.x-index l.vertices);
  bound : l.total ≤ l.x-index * 2 ^ 96;
}
