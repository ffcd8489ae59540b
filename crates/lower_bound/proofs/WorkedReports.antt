-- The numbers of worked schedules: on one operator, on a bus, of a speed controller.
use Rattle.std.proofs.Common.{◌≡◌, ℕ, List, [], ◌∷◌, Option, Some, None, refl, pos}
use Rattle.self_timed.specs.Graph.{Graph}
use Rattle.self_timed.specs.declared.Kind.TheVariants.{Actuator, Constant, Get, Set}
use Rattle.self_timed.proofs.Examples.{
  carried,
  entry,
  operation,
  placed,
  schedule,
  source,
  plain_graph,
  plain_archi,
  plain_schedule,
  bus_graph,
  bus_archi,
  bus_ticks,
  bus_schedule,
  speed_graph,
  speed_archi,
  speed_ticks,
  speed_schedule,
}
use Rattle.lower_bound.specs.declared.ratio.Ratio.{Ratio}
use Rattle.lower_bound.specs.declared.loads.Load.{Load}
use Rattle.lower_bound.specs.declared.alone.Alone.{Alone}
use Rattle.lower_bound.specs.Numbers.{ratio, report}
use Rattle.lower_bound.specs.Transfers.{transfers}

abbrev times : ℕ → ℕ → Ratio
times whole thousandths = record { whole = whole; thousandths = thousandths }

ratios : (ratio 7 2 ≡ times 3 500) × (ratio 2 3 ≡ times 0 666) × (ratio 12 12 ≡ times 1 0) × (ratio 5 0 ≡ times 0 0) × (ratio 0 4 ≡ times 0 0) × (ratio 2005 2000 ≡ times 1 2)
ratios = (refl, refl, refl, refl, refl, refl)

abbrev loaded : ℕ → ℕ → ℕ → Load
loaded busy whole thousandths = record { busy = busy; share = times whole thousandths }

plain : report plain_graph plain_archi (entry ((Some 1 ∷ []) ∷ (Some 2 ∷ []) ∷ [])) plain_schedule ≡ record {
  length = 3;
  operators = loaded 3 1 0 ∷ [];
  media = [];
  alone = Some (record { time = 3; speed_up = times 1 0 }) ∷ [];
  bound = 3;
  above = times 1 0;
}
plain = refl

-- the sensor may not stand on the second operator
bus : report bus_graph bus_archi bus_ticks (bus_schedule 3 13) ≡ record {
  length = 14;
  operators = loaded 12 0 857 ∷ loaded 11 0 785 ∷ [];
  media = loaded 2 0 142 ∷ [];
  alone = Some (record { time = 23; speed_up = times 1 642 }) ∷ None ∷ [];
  bound = 12;
  above = times 1 166;
}
bus = refl

speed : report speed_graph speed_archi speed_ticks speed_schedule ≡ record {
  length = 27;
  operators = loaded 13 0 481 ∷ loaded 15 0 555 ∷ [];
  media = loaded 6 0 222 ∷ [];
  alone = None ∷ None ∷ [];
  bound = 19;
  above = times 1 421;
}
speed = refl

-- a constant, the halves of a delay, and an actuator
abbrev kept_graph : Graph
kept_graph = record {
  vertices = operation 107 (Constant (pos 1 ∷ [])) [] [] (1 ∷ []) None ∷ operation 103 (Get (pos 0 ∷ [])) [] [] (1 ∷ []) (Some 2)
      ∷ operation 104 Set [] (source 1 ∷ []) [] (Some 1) ∷ operation 97 (Actuator 0) [] (source 0 ∷ []) [] None ∷ [];
  bodies = [];
}

-- the speed controller's two transfers carry a sensor's value and a function's; a constant and what a delay keeps are counted apart
counted : (transfers speed_graph speed_schedule ≡ record { all = 2; constants = 0; delays = 0 })
    × (transfers kept_graph (schedule
    (placed 3 1 0 1 (carried 0 0 0 1 0 1 ∷ carried 1 0 0 1 1 2 ∷ []) ∷ placed 2 1 3 4 (carried 1 0 0 1 2 3 ∷ []) ∷ []))
    ≡ record { all = 3; constants = 1; delays = 2 })
counted = (refl, refl)
