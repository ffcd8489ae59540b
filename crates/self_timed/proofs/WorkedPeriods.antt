-- The period of worked schedules: of one operator, of two operators on a bus with one and with two places, and of a pipeline with a delay.
use Rattle.std.proofs.Common.{◌≡◌, ℕ, true, false, List, [], ◌∷◌, Option, Some, None, refl, pos}
use Rattle.sequence_build_laws.specs.Graph.{Graph}
use Rattle.sequence_build_laws.specs.declared.Kind.TheVariants.{Sensor, Actuator, Function, Get, Set}
use Rattle.sequence_build_laws.specs.Archi.{Architecture}
use Rattle.sequence_build_laws.specs.declared.Schedule.{Schedule}
use Rattle.sequence_build_laws.proofs.Examples.{bus_archi, bus_graph, carried, operation, placed, plain_archi, plain_graph, plain_schedule, schedule, source}
use Rattle.self_timed.specs.declared.period.Period.{Period}
use Rattle.self_timed.specs.Period.{last_half, period_of_schedule, period_in}
use Rattle.self_timed.specs.Running.{span}

abbrev period : ℕ → ℕ → Period
period ticks reactions = record { ticks = ticks; reactions = reactions }

-- a reaction lasts 3 ticks; of an odd number the one in the middle counts
plain : (period_of_schedule plain_graph plain_archi plain_schedule 0 ≡ period 0 0) × (period_of_schedule plain_graph plain_archi plain_schedule 1 ≡ period 3 1)
    × (period_of_schedule plain_graph plain_archi plain_schedule 2 ≡ period 3 1) × (period_of_schedule plain_graph plain_archi plain_schedule 3 ≡ period 6 2)
    × (period_of_schedule plain_graph plain_archi plain_schedule 4 ≡ period 6 2)
plain = (refl, refl, refl, refl, refl)

-- The first function lasts 4 ticks and the second, on the other operator, 10.
abbrev bus_schedule : Schedule
bus_schedule = schedule (placed 0 0 0 1 [] ∷ placed 1 0 1 5 [] ∷ placed 2 1 3 13 (carried 0 0 0 1 1 3 ∷ []) ∷ placed 4 1 13 14 [] ∷ placed 3 0 5 6 [] ∷ [])

abbrev deep : ℕ → Architecture
deep n = record { operators = bus_archi.operators; media = bus_archi.media; depth = n }

-- with one place the transfer waits for the second function, which lasts 10: they take turns, in 12 ticks; the first reaction takes 14
bus : (period_of_schedule bus_graph (deep 1) bus_schedule 1 ≡ period 14 1) × (period_of_schedule bus_graph (deep 1) bus_schedule 2 ≡ period 12 1)
bus = (refl, refl)

-- with two places the second operator is never idle: 10 ticks and 1
bus_deep : (period_of_schedule bus_graph (deep 2) bus_schedule 1 ≡ period 14 1) × (period_of_schedule bus_graph (deep 2) bus_schedule 2 ≡ period 11 1)
bus_deep = (refl, refl)

-- A pipeline: what the first function makes is stored on the other operator, where the second function reads it in the next reaction.
abbrev pipe_graph : Graph
pipe_graph = record {
  vertices = operation 115 (Sensor 0) [] [] (1 ∷ []) None ∷ operation 102 (Function 0) [] (source 0 ∷ []) (1 ∷ []) None
      ∷ operation 103 (Get (pos 0 ∷ [])) [] [] (1 ∷ []) (Some 3) ∷ operation 104 Set [] (source 1 ∷ []) [] (Some 2)
      ∷ operation 105 (Function 0) [] (source 2 ∷ []) (1 ∷ []) None ∷ operation 97 (Actuator 0) [] (source 4 ∷ []) [] None ∷ [];
  bodies = [];
}

-- sensor and function take 1 and 10, the transfer 2, and on the other side function and actuator 8 and 1
abbrev pipe_schedule : Schedule
pipe_schedule = schedule (placed 0 0 0 1 [] ∷ placed 1 0 1 11 [] ∷ placed 2 1 0 0 [] ∷ placed 4 1 0 8 [] ∷ placed 5 1 8 9 [] ∷ placed 3 1 13 13 (carried 1 0 0 1 11 13 ∷ []) ∷ [])

-- the first reaction is done at 13; with one place the first function waits for the end of the transfer, with two its operator is never idle
pipe : (period_of_schedule pipe_graph (deep 1) pipe_schedule 1 ≡ period 13 1)
    × (period_of_schedule pipe_graph (deep 1) pipe_schedule 2 ≡ period 12 1) × (period_of_schedule pipe_graph (deep 2) pipe_schedule 2 ≡ period 11 1)
pipe = (refl, refl, refl)

-- of given spans: the last two of three reactions take from 5 to 17
rows : period_in ((span 0 3 ∷ span 3 5 ∷ []) ∷ (span 5 9 ∷ span 9 10 ∷ []) ∷ (span 10 17 ∷ span 11 12 ∷ []) ∷ []) ≡ period 12 2
rows = refl
