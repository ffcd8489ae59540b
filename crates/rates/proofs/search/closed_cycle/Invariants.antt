use Rattle.rates.proofs.Searches.{IsWalk}
use Rattle.rates.proofs.search.closed_cycle.Given as goal

abbrev pub invariant-loop-step : goal.invariant-loop-step
invariant-loop-step l = IsWalk l.given l.lacking l._step l.way.items l.arc
