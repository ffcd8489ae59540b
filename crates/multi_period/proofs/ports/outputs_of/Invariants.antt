use Rattle.std.proofs.Common.{◌≡◌}
use Rattle.multi_period.specs.Periods.{outputs_of}
use Rattle.multi_period.proofs.ports.outputs_of.Given as goal

abbrev pub invariant-loop-output : goal.invariant-loop-output
invariant-loop-output l = l.all.items ≡ outputs_of l.vertex l.output
