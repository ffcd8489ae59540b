use Rattle.std.proofs.Common.{◌≡◌, ◌+◌, ◌-◌, ◌*◌, ◌^◌, ◌≤◌, drop}
use Rattle.sequence_build.specs.Counted.{buffer_sum}
use Rattle.sequence_build.proofs.counted.buffer_words.Given as goal

abbrev pub invariant-loop-number : goal.invariant-loop-number
invariant-loop-number l = record {
  sum_is : l.total + buffer_sum l.depth (drop l.number l.counts) (drop l.number l.buffers) ≡ buffer_sum l.depth l.counts l.buffers;
  bound : l.total ≤ l.number * (2 ^ 64 - 2 ^ 33 + 1);
}
