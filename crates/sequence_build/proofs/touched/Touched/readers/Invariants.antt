use Rattle.std.proofs.Common.{◌≡◌, ◌≤◌, cond}
use Rattle.sequence_build_laws.specs.Owners.{sum_below}
use Rattle.sequence_build.specs.Touched.{waits}
use Rattle.sequence_build.proofs.touched.Touched.readers.Given as goal

abbrev pub invariant-loop-sequence : goal.invariant-loop-sequence
invariant-loop-sequence l = record {
  value : l.count ≡ sum_below (λ s. cond (waits l.self l.buffer s) 1 0) l.sequence;
  few : l.count ≤ l.sequence;
}
