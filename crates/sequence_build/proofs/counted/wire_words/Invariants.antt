use Rattle.std.proofs.Common.{◌≡◌, ◌*◌, ◌^◌, ◌≤◌}
use Rattle.sequence_build_laws.specs.Owners.{sum_below}
use Rattle.sequence_build_laws.specs.Acts.{acts_of}
use Rattle.sequence_build.specs.Plain.{numbering}
use Rattle.sequence_build.specs.Counted.{longest}
use Rattle.sequence_build.proofs.counted.wire_words.Given as goal

abbrev pub invariant-loop-medium : goal.invariant-loop-medium
invariant-loop-medium l = record {
  sum_is : l.total ≡ sum_below (λ m. longest l.bare (numbering l.site) m (acts_of l.decisions)) l.medium;
  bound : l.total ≤ l.medium * 2 ^ 32;
}
