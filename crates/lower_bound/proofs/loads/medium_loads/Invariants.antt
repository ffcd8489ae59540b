use Rattle.std.proofs.Common.{◌≡◌}
use Rattle.self_timed.specs.Acts.{is_over}
use Rattle.lower_bound.specs.Numbers.{loads}
use Rattle.lower_bound.proofs.loads.medium_loads.Given as goal

-- the loads of the media before
abbrev pub invariant-loop-medium : goal.invariant-loop-medium
invariant-loop-medium l = l.loads.items ≡ loads is_over l.medium l.schedule
