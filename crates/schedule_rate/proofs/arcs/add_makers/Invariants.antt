use Rattle.std.proofs.Common.{◌≡◌, ◌++◌, drop, map}
use Rattle.rates.specs.Arcs.{arc}
use Rattle.rates.specs.Tables.{at}
use Rattle.schedule_rate.proofs.arcs.add_makers.Given as goal

abbrev pub invariant-loop-source : goal.invariant-loop-source
invariant-loop-source l = l.row.items ++ map (λ e. arc 0 (at l.acts e)) (drop l.source-index l.sources) ≡ l.initial.row.items ++ map (λ e. arc 0 (at l.acts e)) l.sources
