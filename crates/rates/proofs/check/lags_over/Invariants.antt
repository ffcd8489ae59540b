use Rattle.std.proofs.Common.{◌≡◌, ◌*◌, ◌^◌, ◌≤◌, take}
use Rattle.rates.specs.Rates.{lags}
use Rattle.rates.proofs.check.lags_over.Given as goal

abbrev pub invariant-loop-arc : goal.invariant-loop-arc
invariant-loop-arc l = record {
  sum_is : l.total ≡ lags (take l.arc-index l.way);
  bound : l.total ≤ l.arc-index * 2 ^ 32;
}
