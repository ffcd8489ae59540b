use Rattle.std.proofs.Common.{◌≡◌, replicate}
use Rattle.self_timed.proofs.ticks.repeated.Given as goal

abbrev pub invariant-loop : goal.invariant-loop
invariant-loop l = l.actual ≡ replicate l.counter l.ticks
