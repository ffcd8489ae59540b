-- The pressure run computed on worked examples: one operator; two operators on a bus; a relay over two media; two transfers over a medium of four operators; a star; a speed controller.
use Rattle.std.proofs.Common.{◌≡◌, ℕ, true, false, List, [], ◌∷◌, Option, Some, None, refl, pos}
use Rattle.std.specs.Prelude.{slice_index_or}
use Rattle.schedule.specs.declared.Kind.TheVariants.{Get, Set}
use Rattle.schedule.specs.Graph.{Graph}
use Rattle.schedule.specs.FlatValid.{is_flat}
use Rattle.schedule.specs.declared.Hop.{Hop}
use Rattle.schedule.specs.Archi.{Architecture}
use Rattle.schedule.specs.declared.decision.Schedule.{Schedule}
use Rattle.schedule.specs.Acts.{Act, acts_of}
use Rattle.schedule.specs.Tight.{is_tight}
use Rattle.schedule.specs.Valid.{is_valid}
use Rattle.schedule.proofs.Examples.{
  source,
  medium,
  archi,
  entry,
  carried,
  placed,
  schedule,
  plain_graph,
  plain_archi,
  plain_schedule,
  bus_graph,
  bus_archi,
  bus_schedule,
  bus_ticks,
  relay_archi,
  relay_schedule,
  multi_graph,
  multi_archi,
  multi_schedule,
  multi_ticks,
  operation,
  speed_graph,
  speed_archi,
  speed_ticks,
  speed_schedule,
}
use Rattle.comm_routing.specs.Task.{Task}
use Rattle.comm_routing.specs.Placing.{arrival}
use Rattle.pressure_heuristic.specs.Pressure.{candidates, tail, pressure_run}

-- the routes from each operator to each one, by the first and then by the second
abbrev routes : List (List (List Hop)) → ℕ → ℕ → List Hop
routes rs from to = slice_index_or (slice_index_or rs from []) to []

abbrev over : ℕ → ℕ → Hop
over m to = record { medium = m; to = to }

abbrev task : Graph → Architecture → List (List (List Hop)) → (ℕ → ℕ → Option ℕ) → Task
task g a rs ticks = record { graph = g; archi = a; route = routes rs; ticks = ticks }

plain_run : pressure_run (task plain_graph plain_archi [] (entry ((Some 1 ∷ []) ∷ (Some 2 ∷ []) ∷ []))) ≡ plain_schedule
plain_run = refl

abbrev two_routes : List (List (List Hop))
two_routes = ([] ∷ (over 0 1 ∷ []) ∷ []) ∷ ((over 0 0 ∷ []) ∷ [] ∷ []) ∷ []

abbrev bus_task : Task
bus_task = task bus_graph bus_archi two_routes bus_ticks

bus_run : pressure_run bus_task ≡ bus_schedule 3 13
bus_run = refl

bus_tight : (is_tight bus_graph (bus_schedule 3 13) ≡ true) × (is_tight bus_graph (bus_schedule 4 14) ≡ false)
bus_tight = (refl, refl)

-- with the second function at 4 to 14, and what reads it after that, it is valid, but not tight
abbrev bus_late : Schedule
bus_late = schedule (placed 0 0 0 1 [] ∷ placed 1 0 1 11 [] ∷ placed 2 1 4 14 (carried 0 0 0 1 1 3 ∷ []) ∷ placed 4 1 14 15 [] ∷ placed 3 0 11 12 [] ∷ [])

bus_late_waits : (is_valid bus_graph bus_archi bus_ticks bus_late ≡ true) × (is_tight bus_graph bus_late ≡ false)
bus_late_waits = (refl, refl)

-- from 12 to 22 it ends after what reads it has begun
bus_moved : (is_valid bus_graph bus_archi bus_ticks (bus_schedule 3 13) ≡ true) × (is_valid bus_graph bus_archi bus_ticks (bus_schedule 12 22) ≡ false)
bus_moved = (refl, refl)

-- after the sensor and the first function
abbrev bus_begun : List Act
bus_begun = acts_of (placed 0 0 0 1 [] ∷ placed 1 0 1 11 [] ∷ [])

bus_arrivals : (candidates bus_task bus_begun ≡ 2 ∷ 3 ∷ []) × (arrival bus_task bus_begun 2 0 ≡ 1) × (arrival bus_task bus_begun 2 1 ≡ 3) × (arrival bus_task bus_begun 3 0 ≡ 11)
bus_arrivals = (refl, refl, refl, refl)

relay_run : pressure_run (task plain_graph relay_archi (([] ∷ (over 0 1 ∷ []) ∷ (over 0 1 ∷ over 1 2 ∷ []) ∷ []) ∷ [])
    (entry ((Some 1 ∷ None ∷ None ∷ []) ∷ (None ∷ None ∷ Some 1 ∷ []) ∷ []))) ≡ relay_schedule
relay_run = refl

relay_tight : is_tight plain_graph relay_schedule ≡ true
relay_tight = refl

abbrev bus_routes : ℕ → ℕ → List Hop
bus_routes from to = over 0 to ∷ []

multi_run : pressure_run (record { graph = multi_graph; archi = multi_archi; route = bus_routes; ticks = multi_ticks }) ≡ multi_schedule
multi_run = refl

multi_tight : is_tight multi_graph multi_schedule ≡ true
multi_tight = refl

abbrev speed_task : Task
speed_task = task speed_graph speed_archi two_routes speed_ticks

speed_run : pressure_run speed_task ≡ speed_schedule
speed_run = refl

speed_tight : is_tight speed_graph speed_schedule ≡ true
speed_tight = refl

speed_tails : tail speed_task 0 ≡ 17
speed_tails = refl

-- A set half that may not stand where its get half may: the run places the get half alone.
abbrev torn_graph : Graph
torn_graph = record {
  vertices = operation 99 (Get (pos 0 ∷ [])) [] [] (1 ∷ []) (Some 1) ∷ operation 100 Set [] (source 0 ∷ []) [] (Some 0) ∷ [];
  bodies = [];
}

abbrev torn_ticks : ℕ → ℕ → Option ℕ
torn_ticks = entry ((Some 0 ∷ None ∷ []) ∷ (None ∷ Some 0 ∷ []) ∷ [])

torn_run : (is_flat torn_graph ≡ true) × (pressure_run (task torn_graph bus_archi two_routes torn_ticks) ≡ schedule (placed 0 0 0 0 [] ∷ []))
torn_run = (refl, refl)

torn_fault : is_valid torn_graph bus_archi torn_ticks (pressure_run (task torn_graph bus_archi two_routes torn_ticks)) ≡ false
torn_fault = refl
