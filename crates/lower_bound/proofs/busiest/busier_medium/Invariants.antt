use Rattle.std.proofs.Common.{◌≡◌, drop}
use Rattle.lower_bound.specs.declared.busiest.Line.TheVariants.{Medium}
use Rattle.lower_bound.specs.Busiest.{busier}
use Rattle.lower_bound.proofs.busiest.busier_medium.Given as goal

-- what is left of the loads completes the search
abbrev pub invariant-loop-number : goal.invariant-loop-number
invariant-loop-number l = busier l.best Medium l.number (drop l.number l.loads) ≡ busier l.fn.best Medium 0 l.loads
