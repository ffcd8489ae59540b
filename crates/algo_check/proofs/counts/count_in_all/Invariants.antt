use Rattle.std.proofs.Common.{◌≡◌, ◌+◌, ◌*◌, ◌≤◌, drop}
use Rattle.std.specs.Prelude.{slice_index}
use Rattle.std.specs.List.{sum_by}
use Rattle.algo_check.proofs.counts.count_in_all.Given as goal

abbrev pub invariant-loop-place : goal.invariant-loop-place
invariant-loop-place l = record {
  sum : l.total + sum_by (slice_index l.counts) (drop l.place-index l.places) ≡ sum_by (slice_index l.counts) l.places;
  bounded : l.total ≤ l.place-index * 12800000000000000;
}
