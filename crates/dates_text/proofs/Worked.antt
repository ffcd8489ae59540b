-- The lines of dates on worked schedules: one operator; two operators on a bus, with one and with two places; entries that last no time; and the dates of a speed controller.
use Rattle.std.proofs.Common.{◌≡◌, ℕ, false, List, [], ◌∷◌, None, refl, codes}
use Rattle.std.specs.Fmt.{decimal}
use Rattle.syn_base.specs.Bytes.{Bytes}
use Rattle.timing_chart.specs.Chart.{Line}
use Rattle.self_timed.specs.declared.MediumKind.TheVariants.{PointToPoint}
use Rattle.self_timed.specs.declared.Source.{Source}
use Rattle.self_timed.specs.declared.Vertex.{Vertex}
use Rattle.self_timed.specs.declared.Kind.{Kind}
use Rattle.self_timed.specs.declared.Kind.TheVariants.{Sensor, Actuator, Function}
use Rattle.self_timed.specs.Graph.{Graph}
use Rattle.self_timed.specs.Archi.{Architecture}
use Rattle.self_timed.specs.declared.Transfer.{Transfer}
use Rattle.self_timed.specs.declared.Schedule.{Schedule}
use Rattle.self_timed.proofs.Examples.{source, placed, schedule, plain_schedule}
use Rattle.dates_text.specs.Listing.{dated_lines, all_dates}
use Rattle.std.specs.Prelude.{replicate}

-- The lines of the dates of n reactions of a schedule, if in each reaction its operations, and then
-- its transfers, last these ticks.
abbrev dates_lines : Graph → Architecture → Schedule → List ℕ → ℕ → List Line
dates_lines g a s ticks n = dated_lines g a (all_dates g a s (replicate n ticks))

abbrev op : ℕ → ℕ → ℕ → Bytes → Line
op k start end name = decimal k ∷ codes "op" ∷ decimal start ∷ decimal end ∷ name ∷ []

-- of output 0, from P to Q
abbrev on : ℕ → Bytes → ℕ → ℕ → Bytes → Line
on k medium start end name = decimal k ∷ codes "on" ∷ medium ∷ decimal start ∷ decimal end ∷ name ∷ decimal 0 ∷ codes "P" ∷ codes "Q" ∷ []

abbrev latest : ℕ → List Line
latest l = (codes "latest" ∷ decimal l ∷ []) ∷ []

abbrev vertex : Bytes → Kind → List Source → List ℕ → Vertex
vertex name kind ins outs = record { name = name; def = codes "D"; kind = kind; guards = []; ins = ins; outs = outs; twin = None }

abbrev carried : ℕ → ℕ → ℕ → ℕ → ℕ → Transfer
carried v from to start end = record { source = source v; medium = 0; from = from; to = to; start = start; end = end }

-- on one operator
abbrev plain_archi : Architecture
plain_archi = record { operators = codes "P" ∷ []; media = []; depth = 1 }

abbrev plain_graph : Graph
plain_graph = record { vertices = vertex (codes "s") (Sensor 0) [] (1 ∷ []) ∷ vertex (codes "a") (Actuator 0) (source 0 ∷ []) [] ∷ []; bodies = [] }

plain_lines : dates_lines plain_graph plain_archi plain_schedule (1 ∷ 2 ∷ []) 2
    ≡ (op 0 0 1 (codes "s") ∷ op 0 1 3 (codes "a") ∷ op 1 3 4 (codes "s") ∷ op 1 4 6 (codes "a") ∷ latest 6)
plain_lines = refl

-- on two operators
abbrev bus_archi : ℕ → Architecture
bus_archi depth = record {
  operators = codes "P" ∷ codes "Q" ∷ [];
  media = record { name = codes "bus"; kind = PointToPoint; fixed = 1; per = 1; stands = 0 ∷ 1 ∷ [] } ∷ [];
  depth = depth;
}

abbrev bus_graph : Graph
bus_graph = record {
  vertices = vertex (codes "s") (Sensor 0) [] (1 ∷ []) ∷ vertex (codes "f") (Function 0) (source 0 ∷ []) (1 ∷ []) ∷ vertex (codes "g") (Function 0) (source 0 ∷ []) (1 ∷ [])
      ∷ vertex (codes "a") (Actuator 0) (source 1 ∷ []) [] ∷ vertex (codes "b") (Actuator 1) (source 2 ∷ []) [] ∷ [];
  bodies = [];
}

abbrev bus_schedule : Schedule
bus_schedule = schedule (placed 0 0 0 1 [] ∷ placed 1 0 1 11 [] ∷ placed 2 1 3 13 (carried 0 0 1 1 3 ∷ []) ∷ placed 4 1 13 14 [] ∷ placed 3 0 11 12 [] ∷ [])

-- the first function lasts 4 ticks in place of 10
bus_lines : dates_lines bus_graph (bus_archi 1) bus_schedule (1 ∷ 4 ∷ 10 ∷ 1 ∷ 1 ∷ 2 ∷ []) 2 ≡ (
    op 0 0 1 (codes "s") ∷ op 0 1 5 (codes "f") ∷ on 0 (codes "bus") 1 3 (codes "s") ∷ op 0 3 13 (codes "g") ∷ op 0 13 14 (codes "b") ∷ op 0 5 6 (codes "a")
    ∷ op 1 6 7 (codes "s") ∷ op 1 7 11 (codes "f") ∷ on 1 (codes "bus") 13 15 (codes "s") ∷ op 1 15 25 (codes "g") ∷ op 1 25 26 (codes "b") ∷ op 1 11 12 (codes "a")
    ∷ latest 26)
bus_lines = refl

-- with two places the second transfer does not wait for the function that reads the first
deep_lines : dates_lines bus_graph (bus_archi 2) bus_schedule (1 ∷ 4 ∷ 10 ∷ 1 ∷ 1 ∷ 2 ∷ []) 2 ≡ (
    op 0 0 1 (codes "s") ∷ op 0 1 5 (codes "f") ∷ on 0 (codes "bus") 1 3 (codes "s") ∷ op 0 3 13 (codes "g") ∷ op 0 13 14 (codes "b") ∷ op 0 5 6 (codes "a")
    ∷ op 1 6 7 (codes "s") ∷ op 1 7 11 (codes "f") ∷ on 1 (codes "bus") 7 9 (codes "s") ∷ op 1 14 24 (codes "g") ∷ op 1 24 25 (codes "b") ∷ op 1 11 12 (codes "a")
    ∷ latest 25)
deep_lines = refl

no_time : dates_lines bus_graph (bus_archi 1) bus_schedule (0 ∷ 0 ∷ 0 ∷ 0 ∷ 0 ∷ 0 ∷ []) 1 ≡ (
    op 0 0 0 (codes "s") ∷ op 0 0 0 (codes "f") ∷ on 0 (codes "bus") 0 0 (codes "s") ∷ op 0 0 0 (codes "g") ∷ op 0 0 0 (codes "b") ∷ op 0 0 0 (codes "a") ∷ latest 0)
no_time = refl

-- a transfer that nothing waits for may end last
a_late_transfer : dates_lines bus_graph (bus_archi 1) (schedule (placed 0 0 0 1 (carried 0 0 1 1 3 ∷ []) ∷ [])) (1 ∷ 0 ∷ 0 ∷ 0 ∷ 0 ∷ 9 ∷ []) 1
    ≡ (on 0 (codes "bus") 0 9 (codes "s") ∷ op 0 0 1 (codes "s") ∷ latest 9)
a_late_transfer = refl

nothing_runs : dates_lines (record { vertices = []; bodies = [] }) plain_archi (schedule []) [] 3 ≡ latest 0
nothing_runs = refl
