use Rattle.std.proofs.Common.{◌≡◌, ◌≤◌, cond, take}
use Rattle.std.specs.List.{sum_by}
use Rattle.sequence_build_laws.specs.Serial.{is_other}
use Rattle.sequence_build.proofs.counted.others.Given as goal

abbrev pub invariant-loop-seq : goal.invariant-loop-seq
invariant-loop-seq l = record {
  value : l.count ≡ sum_by (λ q. cond (is_other l.transfer q) 1 0) (take l.seq-index l.sequences);
  few : l.count ≤ l.seq-index;
}
