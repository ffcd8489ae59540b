use Rattle.std.proofs.Common.{◌≡◌}
use Rattle.self_timed.specs.Acts.{is_on}
use Rattle.lower_bound.specs.Numbers.{loads}
use Rattle.lower_bound.proofs.loads.operator_loads.Given as goal

-- the loads of the operators before
abbrev pub invariant-loop-operator : goal.invariant-loop-operator
invariant-loop-operator l = l.loads.items ≡ loads is_on l.operator l.schedule
