use Rattle.std.proofs.Common.{◌≡◌}
use Rattle.multi_period.specs.Periods.{inputs_from}
use Rattle.multi_period.proofs.ports.inputs_from.Given as goal

abbrev pub invariant-loop-input : goal.invariant-loop-input
invariant-loop-input l = l.all.items ≡ inputs_from l.first l.input
