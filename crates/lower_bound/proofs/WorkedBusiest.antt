-- The busiest line of worked schedules.
use Rattle.std.proofs.Common.{◌≡◌, ℕ, [], ◌∷◌, Some, refl}
use Rattle.self_timed.proofs.Examples.{bus_archi, bus_graph, bus_schedule, bus_ticks, speed_archi, speed_graph, speed_schedule, speed_ticks}
use Rattle.self_timed.specs.declared.period.Period.{Period}
use Rattle.lower_bound.specs.declared.ratio.Ratio.{Ratio}
use Rattle.lower_bound.specs.declared.loads.Load.{Load}
use Rattle.lower_bound.specs.Numbers.{report}
use Rattle.lower_bound.specs.declared.busiest.Line.TheVariants.{Operator, Medium}
use Rattle.lower_bound.specs.Busiest.{busiest, longest_busy, busy_line}

abbrev period : ℕ → ℕ → Period
period ticks reactions = record { ticks = ticks; reactions = reactions }

abbrev times : ℕ → ℕ → Ratio
times whole thousandths = record { whole = whole; thousandths = thousandths }

abbrev loaded : ℕ → Load
loaded busy = record { busy = busy; share = times 0 0 }

-- the first of the greatest, operators before media; where nothing is busy, the first operator
lines : (longest_busy (loaded 3 ∷ loaded 5 ∷ loaded 5 ∷ []) (loaded 5 ∷ []) ≡ busy_line (Operator 1) 5) × (longest_busy (loaded 3 ∷ []) (loaded 2 ∷ loaded 4 ∷ loaded 4 ∷ []) ≡ busy_line (Medium 1) 4)
    × (longest_busy (loaded 0 ∷ loaded 0 ∷ []) [] ≡ busy_line (Operator 0) 0)
lines = (refl, refl, refl)

-- the first operator is busy for 12 ticks of each reaction: all the time in a period of 24 ticks over 2 reactions
bus : busiest (report bus_graph bus_archi bus_ticks (bus_schedule 3 13)) (period 24 2) ≡ record { line = Operator 0; share = times 1 0 }
bus = refl

speed : busiest (report speed_graph speed_archi speed_ticks speed_schedule) (period 54 2) ≡ record { line = Operator 1; share = times 0 555 }
speed = refl
