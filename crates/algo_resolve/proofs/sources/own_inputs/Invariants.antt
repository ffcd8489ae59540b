use Rattle.std.proofs.Common.{◌≡◌, ◌-◌}
use Rattle.algo_laws.specs.Resolved.{owns}
use Rattle.algo_resolve.proofs.sources.own_inputs.Given as goal

abbrev pub invariant-loop-number : goal.invariant-loop-number
invariant-loop-number l = l.sources.items ≡ owns l.first (l.number - l.first)
