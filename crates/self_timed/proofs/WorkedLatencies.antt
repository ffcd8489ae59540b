-- Latencies of a speed controller with a delay, of a pipeline through a delay, and of schedules on two and on four operators.
use Rattle.std.proofs.Common.{◌≡◌, ℕ, true, false, List, [], ◌∷◌, Some, None, refl, pos}
use Rattle.sequence_build_laws.specs.declared.Vertex.{Vertex}
use Rattle.sequence_build_laws.specs.declared.Kind.TheVariants.{Sensor, Actuator, Function, Get, Set}
use Rattle.sequence_build_laws.specs.Archi.{Architecture}
use Rattle.sequence_build_laws.specs.declared.Schedule.{Schedule}
use Rattle.sequence_build_laws.proofs.Examples.{bus_archi, bus_graph, carried, multi_archi, multi_graph, multi_schedule, operation, placed, schedule, source, speed_graph}
use Rattle.self_timed.specs.declared.dates.Span.{Span}
use Rattle.self_timed.specs.Running.{span}
use Rattle.self_timed.specs.declared.latency.Latency.{Latency}
use Rattle.self_timed.specs.Latency.{latencies, leads_to}
use Rattle.self_timed.specs.StatedLatencies.{latencies_of_schedule, run_of}

abbrev found : ℕ → ℕ → ℕ → Latency
found sensor actuator ticks = record { sensor = sensor; actuator = actuator; ticks = ticks }

-- the spans of the fourteen operations of the controller, where the first actuator ends at this date
abbrev speed_row : ℕ → List Span
speed_row end =
    span 0 2 ∷ span 2 4 ∷ span 0 0 ∷ span 20 20 ∷ span 5 9 ∷ span 9 15 ∷ span 18 21 ∷ span 21 22
    ∷ span 22 23 ∷ span 23 24 ∷ span 24 25 ∷ span 25 25 ∷ span 25 end ∷ span 15 20 ∷ []

-- both sensors lead to the first actuator, and the first one also to the second; the slower reaction counts
speed : latencies speed_graph.vertices (speed_row 27 ∷ speed_row 29 ∷ []) ≡ found 0 12 29 ∷ found 0 13 20 ∷ found 1 12 27 ∷ []
speed = refl

-- without a reaction there is nothing to wait for
none : latencies speed_graph.vertices [] ≡ found 0 12 0 ∷ found 0 13 0 ∷ found 1 12 0 ∷ []
none = refl

-- the sensor leads to the set half and no further
abbrev pipe : List Vertex
pipe =
    operation 115 (Sensor 0) [] [] (1 ∷ []) None ∷ operation 102 (Function 0) [] (source 0 ∷ []) (1 ∷ []) None
    ∷ operation 103 (Get (pos 0 ∷ [])) [] [] (1 ∷ []) (Some 3) ∷ operation 104 Set [] (source 1 ∷ []) [] (Some 2)
    ∷ operation 105 (Function 0) [] (source 2 ∷ []) (1 ∷ []) None ∷ operation 97 (Actuator 0) [] (source 4 ∷ []) [] None ∷ []

piped : (leads_to pipe 0 3 ≡ true) × (leads_to pipe 0 5 ≡ false) × (leads_to pipe 2 5 ≡ true) × (latencies pipe (speed_row 27 ∷ []) ≡ [])
piped = (refl, refl, refl, refl)

-- operations may stand before those that they read
abbrev turned : List Vertex
turned = operation 97 (Actuator 0) [] (source 1 ∷ []) [] None ∷ operation 102 (Function 0) [] (source 2 ∷ []) (1 ∷ []) None ∷ operation 115 (Sensor 0) [] [] (1 ∷ []) None ∷ []

back : latencies turned ((span 7 9 ∷ span 3 5 ∷ span 1 2 ∷ []) ∷ []) ≡ found 2 0 8 ∷ []
back = refl

-- Two operators on a bus: the first function lasts 4 ticks, and the second one, on the other operator, 10.
abbrev bus_schedule : Schedule
bus_schedule = schedule (placed 0 0 0 1 [] ∷ placed 1 0 1 5 [] ∷ placed 2 1 3 13 (carried 0 0 0 1 1 3 ∷ []) ∷ placed 4 1 13 14 [] ∷ placed 3 0 5 6 [] ∷ [])

abbrev deep : ℕ → Architecture
deep n = record { operators = bus_archi.operators; media = bus_archi.media; depth = n }

-- acts are numbered in the order of decisions, with their transfers
numbered : (run_of bus_graph (deep 1) bus_schedule 2 ≡ 3) × (run_of bus_graph (deep 1) bus_schedule 3 ≡ 5) × (run_of bus_graph (deep 1) bus_schedule 4 ≡ 4)
numbered = (refl, refl, refl)

-- The second reaction begins at 6, and its second actuator ends at 26 with one place, and at 25 with two: the sensor does
-- not wait for the operator that its value waits for.
bus : (latencies_of_schedule bus_graph (deep 1) bus_schedule 1 ≡ found 0 3 6 ∷ found 0 4 14 ∷ []) × (latencies_of_schedule bus_graph (deep 1) bus_schedule 2 ≡ found 0 3 6 ∷ found 0 4 20 ∷ [])
    × (latencies_of_schedule bus_graph (deep 2) bus_schedule 2 ≡ found 0 3 6 ∷ found 0 4 19 ∷ [])
bus = (refl, refl, refl)

-- Each sensor leads to one actuator over the same medium. In the second reaction the first one takes 5 ticks in the place
-- of 4, since the medium is busy, and the second one 5 in the place of 6, since it senses later.
multi : (latencies_of_schedule multi_graph multi_archi multi_schedule 1 ≡ found 0 2 4 ∷ found 1 3 6 ∷ [])
    × (latencies_of_schedule multi_graph multi_archi multi_schedule 2 ≡ found 0 2 5 ∷ found 1 3 6 ∷ [])
multi = (refl, refl)
