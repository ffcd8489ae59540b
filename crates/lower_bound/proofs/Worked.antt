-- The bound computed on worked graphs: by the longest chain, by shared work, by the work of one operator alone; and the operations of longest chains.
use Rattle.std.proofs.Common.{◌≡◌, ℕ, true, false, List, [], ◌∷◌, map, Option, Some, None, refl, pos}
use Rattle.self_timed.specs.declared.Kind.TheVariants.{Actuator, Function, Get, Sensor, Set}
use Rattle.self_timed.specs.declared.Guard.{Guard}
use Rattle.self_timed.specs.declared.Vertex.{Vertex}
use Rattle.self_timed.specs.declared.Medium.{Medium}
use Rattle.self_timed.specs.declared.MediumKind.TheVariants.{PointToPoint, Multipoint}
use Rattle.self_timed.specs.Acts.{length_of}
use Rattle.self_timed.proofs.Examples.{
  entry,
  limits,
  operation,
  source,
  vertex,
  plain_graph,
  bus_graph,
  bus_archi,
  bus_ticks,
  bus_schedule,
  relay_archi,
  relay_schedule,
  speed_graph,
  speed_archi,
  speed_ticks,
  speed_schedule,
}
use Rattle.lower_bound.specs.Bound.{least, least_transfer, carried_to, chain_to, end_on, longest_carried, longest_chain, may_work, shared_work, work_only, greatest_work, lower_bound}
use Rattle.lower_bound.specs.Chain.{chain_links, goes_back}
use Rattle.lower_bound.specs.declared.links.Link.{Link}
use Rattle.comm_routing.specs.Candidates.{needs_of}

-- on one operator everything is its work: no schedule is better than one after the other
abbrev plain_ticks : ℕ → ℕ → Option ℕ
plain_ticks = entry ((Some 1 ∷ []) ∷ (Some 2 ∷ []) ∷ [])

plain : (longest_chain 1 plain_ticks plain_graph.vertices ≡ 3) × (shared_work 1 plain_ticks 2 ≡ 3) × (greatest_work 1 plain_ticks 2 ≡ 3)
    × (longest_carried 1 plain_ticks plain_graph.vertices [] ≡ 3) × (lower_bound 1 plain_ticks plain_graph.vertices [] ≡ 3)
plain = (refl, refl, refl, refl, refl)

-- The sensor, which stands on the first operator alone, either function, an actuator. All together last 23.
bus : (longest_chain 2 bus_ticks bus_graph.vertices ≡ 12) × (shared_work 2 bus_ticks 5 ≡ 12) × (work_only 2 bus_ticks 5 0 ≡ 1) × (work_only 2 bus_ticks 5 1 ≡ 0)
    × (lower_bound 2 bus_ticks bus_graph.vertices bus_archi.media ≡ 12) × (length_of (bus_schedule 3 13) ≡ 14)
bus = (refl, refl, refl, refl, refl, refl)

-- A chain of eight: a sensor, four functions, a case, whose guard is a function's, a merge, an actuator. One actuator stands on the second operator alone.
speed : (chain_to 2 speed_ticks speed_graph.vertices 8 ≡ 17) × (longest_chain 2 speed_ticks speed_graph.vertices ≡ 19)
    × (shared_work 2 speed_ticks 14 ≡ 14) × (work_only 2 speed_ticks 14 0 ≡ 6) × (work_only 2 speed_ticks 14 1 ≡ 5)
    × (lower_bound 2 speed_ticks speed_graph.vertices speed_archi.media ≡ 19) × (length_of speed_schedule ≡ 27)
speed = (refl, refl, refl, refl, refl, refl, refl)

-- A set half waits for its get half, which here ends after what it keeps: 9 against 2.
abbrev kept : List Vertex
kept = operation 115 (Sensor 0) [] [] (1 ∷ []) None ∷ operation 103 (Get (pos 7 ∷ [])) [] [] (1 ∷ []) (Some 2) ∷ operation 104 Set [] (source 0 ∷ []) [] (Some 1) ∷ []

abbrev slow_halves : ℕ → ℕ → Option ℕ
slow_halves = entry ((Some 2 ∷ []) ∷ (Some 11 ∷ Some 9 ∷ []) ∷ (None ∷ Some 5 ∷ []) ∷ [])

halves : (needs_of kept 2 ≡ 0 ∷ 1 ∷ []) × (chain_to 2 slow_halves kept 1 ≡ 9) × (chain_to 2 slow_halves kept 2 ≡ 14)
    × (chain_to 2 slow_halves kept 0 ≡ 2) × (carried_to 2 slow_halves kept bus_archi.media 2 ≡ 14)
halves = (refl, refl, refl, refl, refl)

-- Of three operators the last may take only what takes no time on some operator, so the work is divided by two. No medium leads to it. The first function ends first on the second operator, though its value is carried there, and so does the actuator that stands there alone.
abbrev uneven_ticks : ℕ → ℕ → Option ℕ
uneven_ticks = entry ((Some 1 ∷ []) ∷ (Some 10 ∷ Some 7 ∷ []) ∷ (Some 9 ∷ Some 12 ∷ []) ∷ (None ∷ Some 3 ∷ []) ∷ (None ∷ Some 2 ∷ Some 0 ∷ []) ∷ [])

uneven : (least 3 uneven_ticks 1 ≡ 7) × (may_work 3 uneven_ticks 5 2 ≡ false) × (longest_chain 3 uneven_ticks bus_graph.vertices ≡ 11) × (shared_work 3 uneven_ticks 5 ≡ 10)
    × (work_only 3 uneven_ticks 5 0 ≡ 1) × (work_only 3 uneven_ticks 5 1 ≡ 3) × (work_only 3 uneven_ticks 5 2 ≡ 0)
    × (map (carried_to 3 uneven_ticks bus_graph.vertices bus_archi.media) (0 ∷ 1 ∷ 2 ∷ 3 ∷ 4 ∷ []) ≡ 1 ∷ 10 ∷ 10 ∷ 13 ∷ 10 ∷ [])
    × (lower_bound 3 uneven_ticks bus_graph.vertices bus_archi.media ≡ 13)
uneven = (refl, refl, refl, refl, refl, refl, refl, refl, refl)

-- Both functions stand on the second operator alone, to which the sensor's value is carried: one waits for the other.
abbrev bound_ticks : ℕ → ℕ → Option ℕ
bound_ticks = entry ((Some 4 ∷ []) ∷ (None ∷ Some 6 ∷ []) ∷ (None ∷ Some 7 ∷ []) ∷ (Some 1 ∷ Some 1 ∷ []) ∷ (Some 1 ∷ Some 1 ∷ []) ∷ [])

bound : (longest_chain 2 bound_ticks bus_graph.vertices ≡ 12) × (shared_work 2 bound_ticks 5 ≡ 10) × (work_only 2 bound_ticks 5 0 ≡ 4)
    × (work_only 2 bound_ticks 5 1 ≡ 13) × (longest_carried 2 bound_ticks bus_graph.vertices bus_archi.media ≡ 14)
    × (lower_bound 2 bound_ticks bus_graph.vertices bus_archi.media ≡ 14) × (lower_bound 2 bound_ticks bus_graph.vertices [] ≡ 13)
bound = (refl, refl, refl, refl, refl, refl, refl)

-- Three operations on two operators, none of which depends on another: 11 ticks are divided by two, and rounded up.
abbrev three : List Vertex
three = vertex 97 (Sensor 0) [] (1 ∷ []) ∷ vertex 98 (Sensor 1) [] (1 ∷ []) ∷ vertex 99 (Sensor 2) [] (1 ∷ []) ∷ []

abbrev three_ticks : ℕ → ℕ → Option ℕ
three_ticks = entry ((Some 3 ∷ Some 3 ∷ []) ∷ (Some 4 ∷ Some 5 ∷ []) ∷ (Some 6 ∷ Some 4 ∷ []) ∷ [])

shared : (longest_chain 2 three_ticks three ≡ 4) × (shared_work 2 three_ticks 3 ≡ 6) × (greatest_work 2 three_ticks 3 ≡ 0) × (lower_bound 2 three_ticks three bus_archi.media ≡ 6)
shared = (refl, refl, refl, refl)

-- nothing takes time
nothing : (shared_work 2 three_ticks 0 ≡ 0) × (lower_bound 2 three_ticks [] bus_archi.media ≡ 0) × (lower_bound 2 (λ v o. Some 0) three bus_archi.media ≡ 0)
nothing = (refl, refl, refl)

abbrev read_by_guard : ℕ → List Guard
read_by_guard v = record { source = source v; values = limits; case = 0 } ∷ []

-- Over a relay the second hop alone counts.
abbrev relay_ticks : ℕ → ℕ → Option ℕ
relay_ticks = entry ((Some 1 ∷ []) ∷ (None ∷ None ∷ Some 1 ∷ []) ∷ [])

relay : (longest_chain 3 relay_ticks plain_graph.vertices ≡ 2) × (longest_carried 3 relay_ticks plain_graph.vertices relay_archi.media ≡ 4) × (length_of relay_schedule ≡ 6)
relay = (refl, refl, refl)

-- Two media, of which one begins sooner and the other is faster; at the faster one the third operator does not stand.
abbrev slopes : List Medium
slopes = record { name = 120 ∷ []; kind = PointToPoint; fixed = 10; per = 1; stands = 0 ∷ 1 ∷ [] } ∷ record { name = 121 ∷ []; kind = Multipoint; fixed = 1; per = 4; stands = 0 ∷ 1 ∷ 2 ∷ [] } ∷ []

transfers : (map (least_transfer slopes 1) (1 ∷ 8 ∷ []) ≡ 5 ∷ 18 ∷ []) × (map (least_transfer slopes 2) (1 ∷ 8 ∷ []) ≡ 5 ∷ 33 ∷ []) × (least_transfer slopes 3 1 ≡ 0)
transfers = (refl, refl, refl)

-- A sensor of eight elements on the first operator alone, a function that may stand anywhere, an actuator on the third alone, which is guarded by the sensor or not.
abbrev far : List Guard → List Vertex
far guards = operation 97 (Sensor 0) [] [] (8 ∷ []) None ∷ operation 98 (Function 0) [] (source 0 ∷ []) (1 ∷ []) None ∷ operation 99 (Actuator 0) guards (source 1 ∷ []) [] None ∷ []

abbrev far_ticks : ℕ → ℕ → Option ℕ
far_ticks = entry ((Some 2 ∷ []) ∷ (Some 30 ∷ Some 3 ∷ Some 1 ∷ []) ∷ (None ∷ None ∷ Some 1 ∷ []) ∷ [])

-- the function ends at 32, 23 or 36; it may stand where the actuator does, and the sensor may not
carried : (map (end_on 3 far_ticks (far []) slopes (carried_to 3 far_ticks (far []) slopes) 1) (0 ∷ 1 ∷ 2 ∷ 3 ∷ []) ≡ Some 32 ∷ Some 23
    ∷ Some 36 ∷ None ∷ []) × (longest_carried 3 far_ticks (far []) slopes ≡ 24)
    × (longest_carried 3 far_ticks (far (read_by_guard 0)) slopes ≡ 36) × (longest_chain 3 far_ticks (far (read_by_guard 0)) ≡ 4)
carried = (refl, refl, refl, refl)

abbrev link : ℕ → ℕ → Link
link v n = record { op = v; ticks = n }

-- The first sensor, four functions, a case, whose guard is a function's, the merge, which takes no time, an actuator.
speed_chain : chain_links 2 speed_ticks speed_graph.vertices ≡ link 0 2 ∷ link 4 4 ∷ link 5 6 ∷ link 6 3 ∷ link 7 1 ∷ link 8 1 ∷ link 11 0 ∷ link 12 2 ∷ []
speed_chain = refl

-- Two sensors, a get half, two functions that end together, one that reads the second in its guard and the first as its input, the set half, which ends with it, an actuator.
abbrev ways : List Vertex
ways = operation 97 (Sensor 0) [] [] (1 ∷ []) None ∷ operation 98 (Sensor 1) [] [] (1 ∷ []) None ∷ operation 99 (Get (pos 7 ∷ [])) [] [] (1 ∷ []) (Some 6)
    ∷ operation 100 (Function 0) [] (source 0 ∷ source 1 ∷ []) (1 ∷ []) None ∷ operation 101 (Function 0) [] (source 1 ∷ []) (1 ∷ []) None
    ∷ operation 102 (Function 0) (read_by_guard 4) (source 3 ∷ []) (1 ∷ []) None
    ∷ operation 103 Set [] (source 0 ∷ []) [] (Some 2) ∷ operation 104 (Actuator 0) [] (source 5 ∷ []) [] None ∷ []

-- the first sensor and the set half last this long
abbrev ways_ticks : ℕ → ℕ → ℕ → ℕ → Option ℕ
ways_ticks first last = entry ((Some first ∷ []) ∷ (Some 9 ∷ Some 3 ∷ []) ∷ (None ∷ Some 5 ∷ []) ∷ (Some 4 ∷ []) ∷ (Some 6 ∷ Some 4 ∷ [])
    ∷ (Some 2 ∷ Some 8 ∷ []) ∷ (None ∷ Some last ∷ []) ∷ (Some 0 ∷ []) ∷ [])

-- of three that end at 9 the first by number is taken, and of those that it needs the guard's, which has the greater number
equal_chains : (map (chain_to 2 (ways_ticks 2 4) ways) (5 ∷ 6 ∷ 7 ∷ []) ≡ 9 ∷ 9 ∷ 9 ∷ []) × (chain_links 2 (ways_ticks 2 4) ways ≡ link 1 3 ∷ link 4 4 ∷ link 5 2 ∷ [])
equal_chains = (refl, refl)

-- the set half ends last, and comes after its get half, which ends later than what it keeps
late_half : chain_links 2 (ways_ticks 2 5) ways ≡ link 2 5 ∷ link 6 5 ∷ []
late_half = refl

-- what it keeps ends with the get half, and stands first
equal_half : chain_links 2 (ways_ticks 5 7) ways ≡ link 0 5 ∷ link 6 7 ∷ []
equal_half = refl

-- the last operation takes no time, and has the least number
abbrev no_time : List Vertex
no_time = vertex 97 (Actuator 0) (source 1 ∷ []) [] ∷ vertex 98 (Sensor 0) [] (1 ∷ []) ∷ []

no_time_chain : (chain_links 1 (entry ((Some 0 ∷ []) ∷ (Some 4 ∷ []) ∷ [])) no_time ≡ link 1 4 ∷ link 0 0 ∷ [])
    × (chain_links 1 (λ v o. Some 0) no_time ≡ link 1 0 ∷ link 0 0 ∷ []) × (chain_links 1 (λ v o. Some 0) [] ≡ [])
no_time_chain = (refl, refl, refl)

-- each needs the one after it, and the last none
followed : (goes_back 2 (ways_ticks 2 4) ways (5 ∷ 4 ∷ 1 ∷ []) ≡ true) × (goes_back 2 (ways_ticks 2 4) ways (5 ∷ 4 ∷ []) ≡ false)
    × (goes_back 2 (ways_ticks 2 4) ways (5 ∷ 1 ∷ []) ≡ false) × (goes_back 2 (ways_ticks 2 4) ways (6 ∷ 2 ∷ []) ≡ true)
followed = (refl, refl, refl, refl)
