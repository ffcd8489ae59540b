use Rattle.std.proofs.Common.{◌≡◌, ◌*◌, ◌^◌, ◌≤◌, take}
use Rattle.std.specs.List.{sum_by}
use Rattle.sequence_build.proofs.counted.pair_count.Given as goal

abbrev pub invariant-loop-count : goal.invariant-loop-count
invariant-loop-count l = record {
  sum_is : l.total ≡ sum_by (λ n. n) (take l.count-index l.counts);
  bound : l.total ≤ l.count-index * 2 ^ 32;
}
