-- Arcs computed on worked examples: one operator, a chain over two operators, a bus, a delay, and operators that wait for nothing.
use Rattle.std.proofs.Common.{◌≡◌, ℕ, suc, List, [], ◌∷◌, None, Some, refl, pos}
use Rattle.self_timed.specs.Graph.{Graph}
use Rattle.self_timed.specs.declared.Kind.TheVariants.{Sensor, Actuator, Function, Get, Set}
use Rattle.self_timed.specs.declared.Schedule.{Schedule}
use Rattle.self_timed.specs.Acts.{Act, acts}
use Rattle.self_timed.proofs.Examples.{carried, operation, placed, schedule, source, plain_graph, plain_schedule, bus_graph, bus_schedule, multi_graph}
use Rattle.self_timed.specs.Dates.{event}
use Rattle.rates.specs.declared.table.Arc.{Arc}
use Rattle.rates.specs.Arcs.{arc, arcs, back_from}

abbrev arcs_from : ℕ → Graph → Schedule → ℕ → List Act → List (List Arc)
arcs_from depth g s i [] = []
arcs_from depth g s i (x ∷ xs) = arcs depth g.vertices (acts s) i x ∷ arcs_from depth g s (suc i) xs

-- the arcs of each act
abbrev rows : ℕ → Graph → Schedule → List (List Arc)
rows depth g s = arcs_from depth g s 0 (acts s)

-- One operator: the sensor follows the actuator of the reaction before, and the actuator the sensor, by its line and by what it reads.
plain : rows 1 plain_graph plain_schedule ≡ (arc 1 1 ∷ []) ∷ (arc 0 0 ∷ arc 0 0 ∷ []) ∷ []
plain = refl

-- A chain: the sensor lasts 2 on the first operator, the transfer 3, and the actuator 7 on the second operator.
abbrev pub chain_schedule : Schedule
chain_schedule = schedule (placed 0 0 0 2 [] ∷ placed 1 1 5 12 (carried 0 0 0 1 2 5 ∷ []) ∷ [])

-- each is alone on its line; who makes a value waits for its reader, as many reactions before as there are places
chain : (rows 1 plain_graph chain_schedule ≡ (arc 1 0 ∷ arc 1 1 ∷ []) ∷ (arc 1 1 ∷ arc 0 0 ∷ arc 1 2 ∷ []) ∷ (arc 1 2 ∷ arc 0 1 ∷ []) ∷ [])
    × (rows 2 plain_graph chain_schedule ≡ (arc 1 0 ∷ arc 2 1 ∷ []) ∷ (arc 1 1 ∷ arc 0 0 ∷ arc 2 2 ∷ []) ∷ (arc 1 2 ∷ arc 0 1 ∷ []) ∷ [])
chain = (refl, refl)

-- in the first reaction the transfer waits for the sensor only, in the second one also for the transfer before it
-- and, with one place, for the actuator; with two places it waits for that in the third one
chain_events : (back_from 0 (arc 1 1 ∷ arc 0 0 ∷ arc 1 2 ∷ []) ≡ event 0 0 ∷ []) × (back_from 1 (arc 1 1 ∷ arc 0 0 ∷ arc 1 2 ∷ []) ≡ event 0 1 ∷ event 1 0 ∷ event 0 2 ∷ [])
    × (back_from 1 (arc 1 1 ∷ arc 0 0 ∷ arc 2 2 ∷ []) ≡ event 0 1 ∷ event 1 0 ∷ []) × (back_from 2 (arc 1 1 ∷ arc 0 0 ∷ arc 2 2 ∷ []) ≡ event 1 1 ∷ event 2 0 ∷ event 0 2 ∷ [])
chain_events = (refl, refl, refl, refl)

-- A bus: the first operator has three acts, of which the last one stands last in the schedule too.
bus : rows 2 bus_graph (bus_schedule 3 13)
    ≡ (arc 1 5 ∷ arc 2 2 ∷ []) ∷ (arc 0 0 ∷ arc 0 0 ∷ []) ∷ (arc 1 2 ∷ arc 0 0 ∷ arc 2 3 ∷ []) ∷ (arc 1 4 ∷ arc 0 2 ∷ []) ∷ (arc 0 3 ∷ arc 0 3 ∷ []) ∷ (arc 0 1 ∷ arc 0 1 ∷ []) ∷ []
bus = refl

-- A delay: what the first function makes is stored on the other operator, where the second function reads it in the next reaction.
abbrev pub delay_graph : Graph
delay_graph = record {
  vertices = operation 115 (Sensor 0) [] [] (1 ∷ []) None ∷ operation 102 (Function 0) [] (source 0 ∷ []) (1 ∷ []) None
      ∷ operation 103 (Get (pos 0 ∷ [])) [] [] (1 ∷ []) (Some 3) ∷ operation 104 Set [] (source 1 ∷ []) [] (Some 2)
      ∷ operation 105 (Function 0) [] (source 2 ∷ []) (1 ∷ []) None ∷ operation 97 (Actuator 0) [] (source 4 ∷ []) [] None ∷ [];
  bodies = [];
}

-- sensor and function last 1 and 10, the transfer 2, and on the other operator the second function and the actuator 8 and 1; both halves of the delay last 0
abbrev pub delay_schedule : Schedule
delay_schedule = schedule (placed 0 0 0 1 [] ∷ placed 1 0 1 11 [] ∷ placed 2 1 0 0 [] ∷ placed 4 1 0 8 [] ∷ placed 5 1 8 9 [] ∷ placed 3 1 13 13 (carried 1 0 0 1 11 13 ∷ []) ∷ [])

-- the get half follows the set half of the reaction before by its line, and nothing else joins the halves
delay : (rows 1 delay_graph delay_schedule
    ≡ (arc 1 1 ∷ []) ∷ (arc 0 0 ∷ arc 0 0 ∷ arc 1 5 ∷ []) ∷ (arc 1 6 ∷ []) ∷ (arc 0 2 ∷ arc 0 2 ∷ []) ∷ (arc 0 3 ∷ arc 0 3 ∷ []) ∷ (arc 1 5 ∷ arc 0 1 ∷ arc 1 6 ∷ []) ∷ (arc 0 4 ∷ arc 0 5 ∷ []) ∷ [])
    × (rows 2 delay_graph delay_schedule
    ≡ (arc 1 1 ∷ []) ∷ (arc 0 0 ∷ arc 0 0 ∷ arc 2 5 ∷ []) ∷ (arc 1 6 ∷ []) ∷ (arc 0 2 ∷ arc 0 2 ∷ []) ∷ (arc 0 3 ∷ arc 0 3 ∷ []) ∷ (arc 1 5 ∷ arc 0 1 ∷ arc 2 6 ∷ []) ∷ (arc 0 4 ∷ arc 0 5 ∷ []) ∷ [])
delay = (refl, refl)

-- Two operators that wait for nothing: each has one sensor that no act reads; one lasts 4, and the other one 0.
abbrev pub lone_schedule : Schedule
lone_schedule = schedule (placed 0 0 0 4 [] ∷ placed 1 1 0 0 [] ∷ [])

-- each waits for itself in the reaction before, so for nothing in the first one
lone : (rows 1 multi_graph lone_schedule ≡ (arc 1 0 ∷ []) ∷ (arc 1 1 ∷ []) ∷ []) × (back_from 0 (arc 1 0 ∷ []) ≡ []) × (back_from 3 (arc 1 0 ∷ []) ≡ event 2 0 ∷ [])
lone = (refl, refl, refl)

-- without acts there are no arcs
nothing : rows 1 plain_graph (schedule []) ≡ []
nothing = refl
