-- The dates computed on worked examples: one operator; two operators on a bus, with one and with two places; a speed controller.
use Rattle.std.proofs.Common.{◌≡◌, ℕ, suc, ◌+◌, ◌&&◌, Bool, true, List, [], ◌∷◌, refl}
use Rattle.std.specs.Prelude.{slice_index_or, ◌==◌}
use Rattle.sequence_build_laws.specs.Graph.{Graph}
use Rattle.sequence_build_laws.specs.declared.Schedule.{Schedule}
use Rattle.sequence_build_laws.specs.Acts.{Act, acts}
use Rattle.sequence_build_laws.proofs.Examples.{plain_graph, plain_schedule, bus_graph, bus_schedule, speed_graph, speed_schedule}
use Rattle.self_timed.specs.Dates.{start_by}
use Rattle.self_timed.specs.Entries.{lasting, dates_of_reaction}

-- the dates of a schedule where its entries last so long in each reaction
abbrev dates_with : ℕ → Graph → Schedule → List (List ℕ) → ℕ → List (ℕ × ℕ)
dates_with depth g s ticks k = dates_of_reaction depth g.vertices (acts s) (lasting g.vertices (acts s) ticks) k

abbrev twice : {A : Type 0} → A → List A
twice x = x ∷ x ∷ []

plain_dates : (dates_with 1 plain_graph plain_schedule (twice (1 ∷ 2 ∷ [])) 0 ≡ (0, 1) ∷ (1, 3) ∷ []) × (dates_with 1 plain_graph plain_schedule (twice (1 ∷ 2 ∷ [])) 1 ≡ (3, 4) ∷ (4, 6) ∷ [])
plain_dates = (refl, refl)

-- the first function lasts 4 in place of 10
abbrev bus_ticks : List (List ℕ)
bus_ticks = twice (1 ∷ 4 ∷ 10 ∷ 1 ∷ 1 ∷ 2 ∷ [])

bus_dates : (dates_with 1 bus_graph (bus_schedule 3 13) bus_ticks 0 ≡ (0, 1) ∷ (1, 5) ∷ (1, 3) ∷ (3, 13) ∷ (13, 14) ∷ (5, 6) ∷ [])
    × (dates_with 1 bus_graph (bus_schedule 3 13) bus_ticks 1 ≡ (6, 7) ∷ (7, 11) ∷ (13, 15) ∷ (15, 25) ∷ (25, 26) ∷ (11, 12) ∷ [])
bus_dates = (refl, refl)

-- with two places the second transfer does not wait for the function that reads the first
bus_dates_deep : (dates_with 2 bus_graph (bus_schedule 3 13) bus_ticks 1 ≡ (6, 7) ∷ (7, 11) ∷ (7, 9) ∷ (14, 24) ∷ (24, 25) ∷ (11, 12) ∷ [])
bus_dates_deep = refl

-- with the stated durations the first reaction has the chart's dates; a schedule that starts the second function later than it can is not tight
bus_stated : (dates_with 1 bus_graph (bus_schedule 3 13) (twice (1 ∷ 10 ∷ 10 ∷ 1 ∷ 1 ∷ 2 ∷ [])) 0 ≡ (0, 1) ∷ (1, 11) ∷ (1, 3) ∷ (3, 13) ∷ (13, 14) ∷ (11, 12) ∷ [])
    × (dates_with 1 bus_graph (bus_schedule 4 14) (twice (1 ∷ 10 ∷ 10 ∷ 1 ∷ 1 ∷ 2 ∷ [])) 0 ≡ (0, 1) ∷ (1, 11) ∷ (1, 3) ∷ (3, 13) ∷ (13, 14) ∷ (11, 12) ∷ [])
bus_stated = (refl, refl)

-- operations by number, then the two transfers
abbrev speed_entries : List ℕ
speed_entries = 2 ∷ 2 ∷ 0 ∷ 0 ∷ 4 ∷ 6 ∷ 3 ∷ 1 ∷ 1 ∷ 1 ∷ 1 ∷ 0 ∷ 2 ∷ 5 ∷ 3 ∷ 3 ∷ []

abbrev table : List (List ℕ) → ℕ → ℕ → ℕ
table rows k i = slice_index_or (slice_index_or rows k []) i 0

-- these ends meet the equations of the dates in reaction k; by the law they are then the dates
abbrev meet_from : Graph → Schedule → (ℕ → ℕ → ℕ) → (ℕ → ℕ → ℕ) → ℕ → ℕ → List Act → Bool
meet_from g s lasts ends k i [] = true
meet_from g s lasts ends k i (x ∷ xs) = (ends k i == start_by 1 g.vertices (acts s) ends k i x + lasts k i) && meet_from g s lasts ends k (suc i) xs

abbrev speed_ends : List (List ℕ)
speed_ends = (2 ∷ 0 ∷ 5 ∷ 9 ∷ 15 ∷ 20 ∷ 20 ∷ 4 ∷ 18 ∷ 21 ∷ 22 ∷ 23 ∷ 24 ∷ 25 ∷ 25 ∷ 27 ∷ []) ∷ (29 ∷ 20 ∷ 32 ∷ 36 ∷ 42 ∷ 47 ∷ 47 ∷ 31 ∷ 45 ∷ 48 ∷ 49 ∷ 50 ∷ 51 ∷ 52 ∷ 52 ∷ 54 ∷ []) ∷ []

abbrev speed_meets : ℕ → Bool
speed_meets k = meet_from speed_graph speed_schedule (lasting speed_graph.vertices (acts speed_schedule) (twice speed_entries)) (table speed_ends) k 0 (acts speed_schedule)

speed_dates : (speed_meets 0 ≡ true) × (speed_meets 1 ≡ true)
speed_dates = (refl, refl)
