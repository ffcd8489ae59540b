-- The time on one operator alone, computed: two operations on two operators, on which they last unequally.
use Rattle.std.proofs.Common.{◌≡◌, ℕ, zero, suc, ◌<◌, ◌≤◌, Bool, true, false, List, [], ◌∷◌, Option, Some, None, refl, arith}
use Rattle.std.specs.Prelude.{IsTrue, is_some, slice_index_or, length}
use Rattle.self_timed.specs.declared.MediumKind.TheVariants.{Multipoint}
use Rattle.self_timed.specs.declared.Source.{Source}
use Rattle.self_timed.specs.declared.Vertex.{Vertex}
use Rattle.self_timed.specs.declared.Kind.{Kind}
use Rattle.self_timed.specs.declared.Kind.TheVariants.{Sensor, Actuator}
use Rattle.self_timed.specs.Graph.{Graph}
use Rattle.self_timed.specs.Archi.{Architecture}
use Rattle.schedule_search.specs.Found.{MayAllStand, time_alone}

abbrev vertex : ℕ → Kind → List Source → List ℕ → Vertex
vertex c k ins outs = record { name = c ∷ []; def = 68 ∷ []; kind = k; guards = []; ins = ins; outs = outs; twin = None }

abbrev relay : Graph
relay = record { vertices = vertex 115 (Sensor 0) [] (1 ∷ []) ∷ vertex 97 (Actuator 0) (record { vertex = 0; port = 0 } ∷ []) [] ∷ []; bodies = [] }

abbrev bus : Architecture
bus = record { operators = (80 ∷ []) ∷ (81 ∷ []) ∷ (82 ∷ []) ∷ []; media = record { name = 109 ∷ []; kind = Multipoint; fixed = 1; per = 1; stands = 0 ∷ 1 ∷ 2 ∷ [] } ∷ []; depth = 1 }

-- 3 and 5 ticks on the first operator, 2 and 7 on the second; on the third the actuator may not stand
abbrev ticks : ℕ → ℕ → Option ℕ
ticks v o = slice_index_or (slice_index_or ((Some 3 ∷ Some 2 ∷ Some 1 ∷ []) ∷ (Some 5 ∷ Some 7 ∷ None ∷ []) ∷ []) v []) o None

on_the_first : time_alone relay bus ticks 0 ≡ 8
on_the_first = refl

on_the_second : time_alone relay bus ticks 1 ≡ 9
on_the_second = refl

all_on_the_second : MayAllStand relay bus ticks 1
all_on_the_second = record { operator = omega arith; each = each }
  where
    each : (v : ℕ) → v < length relay.vertices → IsTrue (is_some (ticks v 1))
    each zero l = refl
    each (suc zero) l = refl
    each (suc (suc v)) l = absurd (omega arith)

not_all_on_the_third : MayAllStand relay bus ticks 2 → ⊥
not_all_on_the_third all = no (all.each 1 (omega arith))
  where
    no : false ≡ true → ⊥
    no e = cc
