-- Worked schedules that further rows are computed on: one operator; two operators on a bus; a relay over two media; two transfers over a medium of four operators; a speed controller.
use Rattle.std.proofs.Common.{ℕ, List, [], ◌∷◌, Option, Some, None, pos, ℤ}
use Rattle.std.specs.Prelude.{slice_index_or}
use Rattle.syn_base.specs.declared.arithmetic.Op.TheVariants.{Add}
use Rattle.durations.specs.declared.Source.{Source}
use Rattle.durations.specs.declared.Vertex.{Vertex}
use Rattle.durations.specs.declared.Kind.{Kind}
use Rattle.durations.specs.declared.Guard.{Guard}
use Rattle.durations.specs.declared.Kind.TheVariants.{Sensor, Actuator, Function, Get, Set, Merge}
use Rattle.durations.specs.Expr.{literal, element, index, apply}
use Rattle.durations.specs.Graph.{Graph}
use Rattle.durations.specs.declared.Medium.{Medium}
use Rattle.durations.specs.declared.MediumKind.{MediumKind}
use Rattle.durations.specs.declared.MediumKind.TheVariants.{PointToPoint, Multipoint}
use Rattle.durations.specs.Archi.{Architecture}
use Rattle.schedule.specs.declared.decision.Transfer.{Transfer}
use Rattle.schedule.specs.declared.decision.Decision.{Decision}
use Rattle.schedule.specs.declared.decision.Schedule.{Schedule}

abbrev pub source : ℕ → Source
source v = record { vertex = v; port = 0 }

-- named by one letter
abbrev pub vertex : ℕ → Kind → List Source → List ℕ → Vertex
vertex c k ins outs = record { name = c ∷ []; def = 68 ∷ []; kind = k; guards = []; ins = ins; outs = outs; twin = None }

abbrev pub medium : ℕ → MediumKind → List ℕ → Medium
medium c kind stands = record { name = c ∷ []; kind = kind; fixed = 1; per = 1; stands = stands }

abbrev pub archi : List (List ℕ) → List Medium → Architecture
archi operators media = record { operators = operators; media = media; depth = 1 }

abbrev pub entry : List (List (Option ℕ)) → ℕ → ℕ → Option ℕ
entry rows v o = slice_index_or (slice_index_or rows v []) o None

abbrev pub carried : ℕ → ℕ → ℕ → ℕ → ℕ → ℕ → Transfer
carried v m from to start end = record { source = source v; medium = m; from = from; to = to; start = start; end = end }

abbrev pub placed : ℕ → ℕ → ℕ → ℕ → List Transfer → Decision
placed v o start end transfers = record { op = v; operator = o; start = start; end = end; transfers = transfers }

abbrev pub schedule : List Decision → Schedule
schedule ds = record { decisions = ds }

-- One operator: a sensor and an actuator.
abbrev pub plain_graph : Graph
plain_graph = record { vertices = vertex 115 (Sensor 0) [] (1 ∷ []) ∷ vertex 97 (Actuator 0) (source 0 ∷ []) [] ∷ []; bodies = [] }

abbrev pub plain_archi : Architecture
plain_archi = archi ((80 ∷ []) ∷ []) []

abbrev pub plain_schedule : Schedule
plain_schedule = schedule (placed 0 0 0 1 [] ∷ placed 1 0 1 3 [] ∷ [])

-- Two operators on a bus.
abbrev pub bus_graph : Graph
bus_graph = record {
  vertices = vertex 115 (Sensor 0) [] (1 ∷ []) ∷ vertex 102 (Function 0) (source 0 ∷ []) (1 ∷ []) ∷ vertex 103 (Function 0) (source 0 ∷ []) (1 ∷ [])
      ∷ vertex 97 (Actuator 0) (source 1 ∷ []) [] ∷ vertex 98 (Actuator 1) (source 2 ∷ []) [] ∷ [];
  bodies = (apply Add (element 0 index) (literal (pos 1)) ∷ []) ∷ [];
}

abbrev pub bus_archi : Architecture
bus_archi = archi ((80 ∷ []) ∷ (81 ∷ []) ∷ []) (medium 109 PointToPoint (0 ∷ 1 ∷ []) ∷ [])

-- the second function starts at this date
abbrev pub bus_schedule : ℕ → ℕ → Schedule
bus_schedule start end = schedule (placed 0 0 0 1 [] ∷ placed 1 0 1 11 [] ∷ placed 2 1 start end (carried 0 0 0 1 1 3 ∷ []) ∷ placed 4 1 13 14 [] ∷ placed 3 0 11 12 [] ∷ [])

abbrev pub bus_ticks : ℕ → ℕ → Option ℕ
bus_ticks = entry ((Some 1 ∷ None ∷ []) ∷ (Some 10 ∷ Some 10 ∷ []) ∷ (Some 10 ∷ Some 10 ∷ []) ∷ (Some 1 ∷ Some 1 ∷ []) ∷ (Some 1 ∷ Some 1 ∷ []) ∷ [])

-- A relay.
abbrev pub relay_archi : Architecture
relay_archi = archi ((65 ∷ []) ∷ (66 ∷ []) ∷ (67 ∷ []) ∷ []) (medium 120 PointToPoint (0 ∷ 1 ∷ []) ∷ medium 121 PointToPoint (1 ∷ 2 ∷ []) ∷ [])

abbrev pub relay_schedule : Schedule
relay_schedule = schedule (placed 0 0 0 1 [] ∷ placed 1 2 5 6 (carried 0 0 0 1 1 3 ∷ carried 0 1 1 2 3 5 ∷ []) ∷ [])

-- Two transfers over a medium of four operators.
abbrev pub multi_graph : Graph
multi_graph = record {
  vertices = vertex 115 (Sensor 0) [] (1 ∷ []) ∷ vertex 116 (Sensor 1) [] (1 ∷ []) ∷ vertex 97 (Actuator 0) (source 0 ∷ []) [] ∷ vertex 98 (Actuator 1) (source 1 ∷ []) [] ∷ [];
  bodies = [];
}

abbrev pub multi_archi : Architecture
multi_archi = archi ((65 ∷ []) ∷ (66 ∷ []) ∷ (67 ∷ []) ∷ (68 ∷ []) ∷ []) (medium 109 Multipoint (0 ∷ 1 ∷ 2 ∷ 3 ∷ []) ∷ [])

abbrev pub multi_schedule : Schedule
multi_schedule = schedule (placed 0 0 0 1 [] ∷ placed 2 1 3 4 (carried 0 0 0 1 1 3 ∷ []) ∷ placed 1 2 0 1 [] ∷ placed 3 3 5 6 (carried 1 0 2 3 3 5 ∷ []) ∷ [])

abbrev pub multi_ticks : ℕ → ℕ → Option ℕ
multi_ticks = entry ((Some 1 ∷ []) ∷ (None ∷ None ∷ Some 1 ∷ []) ∷ (None ∷ Some 1 ∷ []) ∷ (None ∷ None ∷ None ∷ Some 1 ∷ []) ∷ [])

-- A speed controller: a delay, cases and a merge.
abbrev pub operation : ℕ → Kind → List Guard → List Source → List ℕ → Option ℕ → Vertex
operation c k guards ins outs twin = record { name = c ∷ []; def = 68 ∷ []; kind = k; guards = guards; ins = ins; outs = outs; twin = twin }

abbrev pub limits : List ℤ
limits = pos 1 ∷ pos 2 ∷ []

abbrev pub guard : ℕ → List Guard
guard c = record { source = source 7; values = limits; case = c } ∷ []

abbrev pub window : List ℤ
window = pos 0 ∷ pos 0 ∷ pos 0 ∷ pos 0 ∷ pos 0 ∷ pos 0 ∷ pos 0 ∷ pos 0 ∷ []

abbrev pub speed_graph : Graph
speed_graph = record {
  vertices = operation 97 (Sensor 0) [] [] (1 ∷ []) None ∷ operation 98 (Sensor 1) [] [] (1 ∷ []) None
      ∷ operation 99 (Get window) [] [] (8 ∷ []) (Some 3) ∷ operation 100 Set [] (source 4 ∷ []) [] (Some 2)
      ∷ operation 101 (Function 0) [] (source 2 ∷ source 0 ∷ []) (8 ∷ []) None ∷ operation 102 (Function 0) [] (source 4 ∷ []) (1 ∷ []) None
      ∷ operation 103 (Function 0) [] (source 1 ∷ source 5 ∷ []) (1 ∷ []) None ∷ operation 104 (Function 0) [] (source 6 ∷ []) (1 ∷ []) None
      ∷ operation 105 (Function 0) (guard 0) (source 6 ∷ []) (1 ∷ []) None
      ∷ operation 106 (Function 0) (guard 1) (source 6 ∷ []) (1 ∷ []) None ∷ operation 107 (Function 0) (guard 2) (source 6 ∷ []) (1 ∷ []) None
      ∷ operation 108 (Merge limits) [] (source 7 ∷ source 8 ∷ source 9 ∷ source 10 ∷ []) (1 ∷ []) None
      ∷ operation 109 (Actuator 0) [] (source 11 ∷ []) [] None ∷ operation 110 (Actuator 1) [] (source 5 ∷ []) [] None ∷ [];
  bodies = (literal (pos 0) ∷ []) ∷ [];
}

abbrev pub speed_archi : Architecture
speed_archi = archi ((80 ∷ []) ∷ (81 ∷ []) ∷ []) (record { name = 99 ∷ []; kind = Multipoint; fixed = 2; per = 1; stands = 0 ∷ 1 ∷ [] } ∷ [])

abbrev pub speed_ticks : ℕ → ℕ → Option ℕ
speed_ticks = entry ((Some 2 ∷ []) ∷ (Some 2 ∷ []) ∷ (Some 0 ∷ Some 0 ∷ []) ∷ (Some 0 ∷ Some 0 ∷ []) ∷ (Some 4 ∷ Some 4 ∷ []) ∷ (Some 6 ∷ Some 6 ∷ []) ∷ (Some 3 ∷ Some 3 ∷ []) ∷ (Some 1 ∷ Some 1 ∷ [])
    ∷ (Some 1 ∷ Some 1 ∷ []) ∷ (Some 1 ∷ Some 1 ∷ []) ∷ (Some 1 ∷ Some 1 ∷ []) ∷ (Some 0 ∷ Some 0 ∷ []) ∷ (Some 2 ∷ []) ∷ (None ∷ Some 5 ∷ []) ∷ [])

abbrev pub speed_schedule : Schedule
speed_schedule = schedule (placed 0 0 0 2 [] ∷ placed 2 1 0 0 [] ∷ placed 4 1 5 9 (carried 0 0 0 1 2 5 ∷ []) ∷ placed 5 1 9 15 [] ∷ placed 13 1 15 20 [] ∷ placed 3 1 20 20 []
    ∷ placed 1 0 2 4 [] ∷ placed 6 0 18 21 (carried 5 0 1 0 15 18 ∷ []) ∷ placed 7 0 21 22 [] ∷ placed 8 0 22 23 [] ∷ placed 9 0 23 24 []
    ∷ placed 10 0 24 25 [] ∷ placed 11 0 25 25 [] ∷ placed 12 0 25 27 [] ∷ [])
