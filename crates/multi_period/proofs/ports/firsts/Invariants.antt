use Rattle.std.proofs.Common.{◌≡◌}
use Rattle.multi_period.specs.Periods.{firsts}
use Rattle.multi_period.proofs.ports.firsts.Given as goal

abbrev pub invariant-loop-vertex : goal.invariant-loop-vertex
invariant-loop-vertex l = l.all.items ≡ firsts l.vertex
