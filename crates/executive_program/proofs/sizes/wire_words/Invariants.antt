use Rattle.std.proofs.Common.{◌≡◌, ◌*◌, ◌^◌, ◌≤◌}
use Rattle.interleavings.specs.Owners.{sum_below}
use Rattle.executive_program.specs.MicroSteps.{wire_len}
use Rattle.executive_program.proofs.sizes.wire_words.Given as goal

abbrev pub invariant-loop-medium : goal.invariant-loop-medium
invariant-loop-medium l = record {
  sum_is : l.total ≡ sum_below (wire_len l.program) l.medium;
  bound : l.total ≤ l.medium * 2 ^ 32;
}
