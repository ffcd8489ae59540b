-- Validity and tightness computed on worked schedules: one that is valid and tight, and each condition broken alone.
use Rattle.std.proofs.Common.{◌≡◌, ℕ, Bool, true, false, List, [], ◌∷◌, ◌++◌, Option, Some, None, refl, pos}
use Rattle.std.specs.Prelude.{slice_index_or}
use Rattle.durations.specs.declared.MediumKind.TheVariants.{PointToPoint}
use Rattle.durations.specs.declared.Source.{Source}
use Rattle.durations.specs.declared.Vertex.{Vertex}
use Rattle.durations.specs.declared.Kind.{Kind}
use Rattle.durations.specs.declared.Kind.TheVariants.{Sensor, Function, Get, Set}
use Rattle.durations.specs.Graph.{Graph}
use Rattle.durations.specs.Archi.{Architecture}
use Rattle.schedule.specs.declared.decision.Transfer.{Transfer}
use Rattle.schedule.specs.declared.decision.Decision.{Decision}
use Rattle.schedule.specs.Acts.{length_of}
use Rattle.schedule.specs.Tight.{is_tight}
use Rattle.schedule.specs.Valid.{is_valid}
use Rattle.schedule.proofs.Examples.{source, placed, schedule}

abbrev vertex : ℕ → Kind → List Source → List ℕ → Option ℕ → Vertex
vertex c k ins outs twin = record { name = c ∷ []; def = 68 ∷ []; kind = k; guards = []; ins = ins; outs = outs; twin = twin }

-- two operators on a bus that carries one element in 2 ticks
abbrev bus : Architecture
bus = record { operators = (80 ∷ []) ∷ (81 ∷ []) ∷ []; media = record { name = 109 ∷ []; kind = PointToPoint; fixed = 1; per = 1; stands = 0 ∷ 1 ∷ [] } ∷ []; depth = 1 }

abbrev carried : ℕ → ℕ → ℕ → Transfer
carried v start end = record { source = source v; medium = 0; from = 0; to = 1; start = start; end = end }

abbrev sum_of_two : Graph
sum_of_two = record {
  vertices = vertex 115 (Sensor 0) [] (1 ∷ []) None ∷ vertex 116 (Sensor 1) [] (1 ∷ []) None ∷ vertex 102 (Function 0) (source 0 ∷ source 1 ∷ []) (1 ∷ []) None ∷ [];
  bodies = [];
}

-- sensors last 1 tick and stand on the first operator alone; the function lasts 4 ticks on the first, and 3 on the second
abbrev ticks : ℕ → ℕ → Option ℕ
ticks v o = slice_index_or (slice_index_or ((Some 1 ∷ None ∷ []) ∷ (Some 1 ∷ None ∷ []) ∷ (Some 4 ∷ Some 3 ∷ []) ∷ []) v []) o None

abbrev valid : List Decision → Bool
valid ds = is_valid sum_of_two bus ticks (schedule ds)

abbrev sensors : List Decision
sensors = placed 0 0 0 1 [] ∷ placed 1 0 1 2 [] ∷ []

as_it_is : valid (sensors ++ (placed 2 1 5 8 (carried 0 1 3 ∷ carried 1 3 5 ∷ []) ∷ [])) ≡ true
as_it_is = refl

its_length : length_of (schedule (sensors ++ (placed 2 1 5 8 (carried 0 1 3 ∷ carried 1 3 5 ∷ []) ∷ []))) ≡ 8
its_length = refl

-- a needless transfer counts
length_with_transfers : length_of (schedule (placed 0 0 0 1 (carried 1 9 11 ∷ []) ∷ [])) ≡ 11
length_with_transfers = refl

later_than_needed : valid (sensors ++ (placed 2 1 7 10 (carried 0 2 4 ∷ carried 1 5 7 ∷ []) ∷ [])) ≡ true
later_than_needed = refl

-- Of valid schedules those are tight in which nothing waits longer than it has to: here a second transfer, and then the function, start a tick late.
tight_as_it_is : is_tight sum_of_two (schedule (sensors ++ (placed 2 1 5 8 (carried 0 1 3 ∷ carried 1 3 5 ∷ []) ∷ []))) ≡ true
tight_as_it_is = refl

a_late_transfer : is_tight sum_of_two (schedule (sensors ++ (placed 2 1 6 9 (carried 0 1 3 ∷ carried 1 4 6 ∷ []) ∷ []))) ≡ false
a_late_transfer = refl

a_late_operation : is_tight sum_of_two (schedule (sensors ++ (placed 2 1 6 9 (carried 0 1 3 ∷ carried 1 3 5 ∷ []) ∷ []))) ≡ false
a_late_operation = refl

-- too early is not tight either
an_early_operation : is_tight sum_of_two (schedule (sensors ++ (placed 2 1 4 7 (carried 0 1 3 ∷ carried 1 3 5 ∷ []) ∷ []))) ≡ false
an_early_operation = refl

-- a line goes by its last act, though an act before it may end later
the_last_of_a_line : is_tight sum_of_two (schedule (placed 0 0 0 9 [] ∷ placed 1 0 9 4 [] ∷ placed 0 0 4 5 [] ∷ [])) ≡ true
the_last_of_a_line = refl

an_operation_twice : valid (sensors ++ (placed 2 1 5 8 (carried 0 1 3 ∷ carried 1 3 5 ∷ []) ∷ placed 2 1 8 11 [] ∷ [])) ≡ false
an_operation_twice = refl

an_operation_missing : valid sensors ≡ false
an_operation_missing = refl

not_its_duration : valid (sensors ++ (placed 2 1 5 9 (carried 0 1 3 ∷ carried 1 3 5 ∷ []) ∷ [])) ≡ false
not_its_duration = refl

where_it_may_not_stand : valid (placed 0 1 0 1 [] ∷ placed 1 1 1 2 [] ∷ placed 2 1 2 5 [] ∷ []) ≡ false
where_it_may_not_stand = refl

overlap_on_an_operator : valid (placed 0 0 0 1 [] ∷ placed 1 0 0 1 [] ∷ placed 2 1 5 8 (carried 0 1 3 ∷ carried 1 3 5 ∷ []) ∷ []) ≡ false
overlap_on_an_operator = refl

overlap_on_a_medium : valid (sensors ++ (placed 2 1 5 8 (carried 0 1 3 ∷ carried 1 2 4 ∷ []) ∷ [])) ≡ false
overlap_on_a_medium = refl

not_the_time_of_the_medium : valid (sensors ++ (placed 2 1 6 9 (carried 0 1 3 ∷ carried 1 3 6 ∷ []) ∷ [])) ≡ false
not_the_time_of_the_medium = refl

a_value_twice : valid (sensors ++ (placed 2 1 7 10 (carried 0 1 3 ∷ carried 0 3 5 ∷ carried 1 5 7 ∷ []) ∷ [])) ≡ false
a_value_twice = refl

a_value_that_is_not_there_yet : valid (sensors ++ (placed 2 1 5 8 (carried 0 0 2 ∷ carried 1 3 5 ∷ []) ∷ [])) ≡ false
a_value_that_is_not_there_yet = refl

a_source_too_late : valid (sensors ++ (placed 2 1 4 7 (carried 0 1 3 ∷ carried 1 3 5 ∷ []) ∷ [])) ≡ false
a_source_too_late = refl

a_source_that_is_not_brought : valid (sensors ++ (placed 2 1 5 8 (carried 0 1 3 ∷ []) ∷ [])) ≡ false
a_source_that_is_not_brought = refl

-- A delay of a sensor's values. Its halves take no time.
abbrev kept : Graph
kept = record {
  vertices = vertex 115 (Sensor 0) [] (1 ∷ []) None ∷ vertex 103 (Get (pos 7 ∷ [])) [] (1 ∷ []) (Some 2) ∷ vertex 104 Set (source 0 ∷ []) [] (Some 1) ∷ [];
  bodies = [];
}

abbrev kept_valid : List Decision → Bool
kept_valid ds = is_valid kept bus (λ v o. slice_index_or (slice_index_or ((Some 1 ∷ None ∷ []) ∷ (Some 0 ∷ Some 0 ∷ []) ∷ (Some 0 ∷ Some 0 ∷ []) ∷ []) v []) o None) (schedule ds)

halves_together : kept_valid (placed 0 0 0 1 [] ∷ placed 1 1 0 0 [] ∷ placed 2 1 3 3 (carried 0 1 3 ∷ []) ∷ []) ≡ true
halves_together = refl

halves_apart : kept_valid (placed 0 0 0 1 [] ∷ placed 1 0 1 1 [] ∷ placed 2 1 3 3 (carried 0 1 3 ∷ []) ∷ []) ≡ false
halves_apart = refl

the_set_half_first : kept_valid (placed 0 0 0 1 [] ∷ placed 2 1 3 3 (carried 0 1 3 ∷ []) ∷ placed 1 1 3 3 [] ∷ []) ≡ false
the_set_half_first = refl
