use Rattle.std.proofs.Common.{◌≡◌, ◌*◌, ◌^◌, ◌≤◌, take}
use Rattle.rates.specs.Rates.{length_over}
use Rattle.rates.specs.Tables.{at}
use Rattle.rates.proofs.check.ticks_over.Given as goal

abbrev pub invariant-loop-arc : goal.invariant-loop-arc
invariant-loop-arc l = record {
  sum_is : l.total ≡ length_over (at l.long) (take l.arc-index l.way);
  bound : l.total ≤ l.arc-index * 2 ^ 64;
}
