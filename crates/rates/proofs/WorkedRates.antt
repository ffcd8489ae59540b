-- Rates computed on worked examples: one operator, a chain, a delay, operators that wait for nothing; two operators on a bus, faster than the chart repeated; and two operators that wait for each other over two media, two reactions in fifteen ticks.
use Rattle.std.proofs.Common.{◌≡◌, ◌≤◌, ◌*◌, ℕ, Bool, true, false, List, [], ◌∷◌, Option, Some, refl, ap, inl, inr, arith}
use Rattle.std.specs.Prelude.{slice_get, slice_index_or}
use Rattle.self_timed.specs.Graph.{Graph}
use Rattle.self_timed.specs.declared.Medium.{Medium}
use Rattle.self_timed.specs.declared.MediumKind.TheVariants.{PointToPoint}
use Rattle.self_timed.specs.Archi.{Architecture}
use Rattle.self_timed.specs.declared.Schedule.{Schedule}
use Rattle.self_timed.specs.Acts.{Act, acts, end_of, length_of}
use Rattle.self_timed.specs.ScheduleValid.{is_valid}
use Rattle.self_timed.proofs.Examples.{archi, carried, placed, schedule, bus_graph, bus_schedule, multi_graph, plain_graph, plain_schedule}
use Rattle.self_timed.specs.Dates.{with_act}
use Rattle.self_timed.specs.Entries.{stated}
use Rattle.self_timed.specs.Laws.{NoLaterThanStated}
use Rattle.rates.specs.declared.table.Arc.{Arc}
use Rattle.rates.specs.Arcs.{arc}
use Rattle.rates.specs.Rates.{stated_at, Sustains, is_sustained, is_cycle, is_critical_cycle}
use Rattle.std.proofs.lemmas.Nat.Gcd.{IsGcd-from_mod, IsGcd-from_zero, IsGcd-swap}
use Rattle.rates.specs.ExactRates.{IsExactIn}
use Rattle.rates.specs.Tables.{at, is_critical_in, rows_fit}
use Rattle.rates.proofs.WorkedArcs.{chain_schedule, delay_graph, delay_schedule, lone_schedule}
use Rattle.rates.proofs.Whole.{rates_are_sustained, chart_is_sustained, no_rate_is_below_a_cycle, cycle_is_tested}

abbrev sustains : ℕ → Graph → Schedule → ℕ → ℕ → List ℕ → Bool
sustains depth g s ticks reactions offsets = is_sustained depth g.vertices (acts s) (stated_at (acts s)) ticks reactions (λ i. slice_index_or offsets i 0)

-- so many ticks for so many reactions are critical for a way from this act
abbrev critical : ℕ → Graph → Schedule → ℕ → ℕ → ℕ → List Arc → Bool
critical depth g s ticks reactions i way = is_critical_cycle depth g.vertices (acts s) (stated_at (acts s)) ticks reactions i way

-- One operator: sensor and actuator last 1 and 2, so a reaction takes 3; two reactions in 6 ticks are the same rate.
plain_sustains : (sustains 1 plain_graph plain_schedule 3 1 (1 ∷ 3 ∷ []) ≡ true)
    × (sustains 1 plain_graph plain_schedule 6 2 (2 ∷ 6 ∷ []) ≡ true) × (sustains 1 plain_graph plain_schedule 2 1 (1 ∷ 3 ∷ []) ≡ false)
plain_sustains = (refl, refl, refl)

-- the cycle may begin at either of them, and three ticks for two reactions are too few
plain_cycle : (critical 1 plain_graph plain_schedule 3 1 0 (arc 0 0 ∷ arc 1 1 ∷ []) ≡ true) × (critical 1 plain_graph plain_schedule 6 2 1 (arc 1 1 ∷ arc 0 0 ∷ []) ≡ true)
    × (critical 1 plain_graph plain_schedule 3 2 0 (arc 0 0 ∷ arc 1 1 ∷ []) ≡ false)
plain_cycle = (refl, refl, refl)

-- A chain, of which the acts last 2, 3 and 7: with one place the transfer and the actuator take turns, 10 ticks; with two the actuator is never idle, 7 ticks.
chain_sustains : (sustains 1 plain_graph chain_schedule 10 1 (2 ∷ 5 ∷ 12 ∷ []) ≡ true) × (sustains 1 plain_graph chain_schedule 9 1 (2 ∷ 5 ∷ 12 ∷ []) ≡ false)
    × (sustains 2 plain_graph chain_schedule 7 1 (2 ∷ 5 ∷ 12 ∷ []) ≡ true) × (sustains 2 plain_graph chain_schedule 6 1 (2 ∷ 5 ∷ 12 ∷ []) ≡ false)
chain_sustains = (refl, refl, refl, refl)

-- with two places the turn of transfer and actuator leads over two reactions, and is not critical
chain_cycle : (critical 1 plain_graph chain_schedule 10 1 1 (arc 0 1 ∷ arc 1 2 ∷ []) ≡ true) × (critical 2 plain_graph chain_schedule 7 1 2 (arc 1 2 ∷ []) ≡ true)
    × (critical 2 plain_graph chain_schedule 10 1 1 (arc 0 1 ∷ arc 1 2 ∷ []) ≡ false) × (critical 2 plain_graph chain_schedule 5 1 1 (arc 0 1 ∷ arc 2 2 ∷ []) ≡ true)
chain_cycle = (refl, refl, refl, refl)

-- over a table, with the rows of the chain in another order
abbrev chain_table : List (List Arc)
chain_table = (arc 1 1 ∷ arc 1 0 ∷ []) ∷ (arc 1 2 ∷ arc 0 0 ∷ arc 1 1 ∷ []) ∷ (arc 0 1 ∷ arc 1 2 ∷ []) ∷ []

abbrev chain_long : ℕ → ℕ
chain_long i = at (2 ∷ 3 ∷ 7 ∷ []) i

chain_fits : (rows_fit chain_long 10 1 (at (2 ∷ 5 ∷ 12 ∷ [])) chain_table ≡ true) × (rows_fit chain_long 9 1 (at (2 ∷ 5 ∷ 12 ∷ [])) chain_table ≡ false)
    × (is_critical_in chain_table chain_long 10 1 1 (arc 0 1 ∷ arc 1 2 ∷ []) ≡ true) × (is_critical_in chain_table chain_long 10 1 2 (arc 0 1 ∷ arc 1 2 ∷ []) ≡ false)
chain_fits = (refl, refl, refl, refl)

-- the exact rate over this table is ten ticks for one reaction, with its certificate
chain_exact : IsExactIn chain_table chain_long (record { rate = record { ticks = 10; reactions = 1 }; offsets = 2 ∷ 5 ∷ 12 ∷ []; act = 1; way = arc 0 1 ∷ arc 1 2 ∷ [] })
chain_exact = record { some = omega arith; lowest = IsGcd-from_mod 10 1 1 (IsGcd-from_zero 1 0 refl); sustained = refl; exact = inr refl }

-- Two acts that wait for each other over two reactions last 3 and 4: seven ticks for two reactions, and neither six nor thirteen for four.
abbrev turn_table : List (List Arc)
turn_table = (arc 2 1 ∷ []) ∷ (arc 0 0 ∷ []) ∷ []

abbrev turn_long : ℕ → ℕ
turn_long i = at (3 ∷ 4 ∷ []) i

turn_exact : IsExactIn turn_table turn_long (record { rate = record { ticks = 7; reactions = 2 }; offsets = 6 ∷ 14 ∷ []; act = 0; way = arc 0 0 ∷ arc 2 1 ∷ [] })
turn_exact = record { some = omega arith; lowest = IsGcd-from_mod 7 2 1 (IsGcd-from_mod 2 1 1 (IsGcd-from_zero 1 0 refl)); sustained = refl; exact = inr refl }

turn_others : (rows_fit turn_long 6 2 (at (6 ∷ 14 ∷ [])) turn_table ≡ false) × (rows_fit turn_long 13 4 (at (12 ∷ 28 ∷ [])) turn_table ≡ false)
    × (is_critical_in turn_table turn_long 7 1 0 (arc 0 0 ∷ arc 2 1 ∷ []) ≡ false) × (is_critical_in turn_table turn_long 14 4 1 (arc 2 1 ∷ arc 0 0 ∷ []) ≡ true)
turn_others = (refl, refl, refl, refl)

-- nothing that lasts no time needs a cycle
idle_exact : IsExactIn turn_table (λ i. 0) (record { rate = record { ticks = 0; reactions = 1 }; offsets = []; act = 0; way = [] })
idle_exact = record { some = omega arith; lowest = IsGcd-swap 1 0 1 (IsGcd-from_zero 1 0 refl); sustained = refl; exact = inl refl }

-- A delay: with one place function and transfer take turns, 12 ticks, with two the first operator is never idle, 11 ticks. The chart's own
-- ends do not fit: the get half has to wait for the set half of the reaction before, which ends at 13.
delay_sustains : (sustains 1 delay_graph delay_schedule 12 1 (1 ∷ 11 ∷ 0 ∷ 8 ∷ 9 ∷ 13 ∷ 13 ∷ []) ≡ false)
    × (sustains 1 delay_graph delay_schedule 12 1 (1 ∷ 11 ∷ 1 ∷ 9 ∷ 10 ∷ 13 ∷ 13 ∷ []) ≡ true) × (sustains 1 delay_graph delay_schedule 11 1 (1 ∷ 11 ∷ 1 ∷ 9 ∷ 10 ∷ 13 ∷ 13 ∷ []) ≡ false)
    × (sustains 2 delay_graph delay_schedule 11 1 (1 ∷ 11 ∷ 1 ∷ 9 ∷ 10 ∷ 13 ∷ 13 ∷ []) ≡ false) × (sustains 2 delay_graph delay_schedule 11 1 (1 ∷ 11 ∷ 2 ∷ 10 ∷ 11 ∷ 13 ∷ 13 ∷ []) ≡ true)
    × (sustains 2 delay_graph delay_schedule 10 1 (1 ∷ 11 ∷ 2 ∷ 10 ∷ 11 ∷ 13 ∷ 13 ∷ []) ≡ false)
delay_sustains = (refl, refl, refl, refl, refl, refl)

delay_cycle : (critical 1 delay_graph delay_schedule 12 1 1 (arc 0 1 ∷ arc 1 5 ∷ []) ≡ true) × (critical 2 delay_graph delay_schedule 11 1 0 (arc 0 0 ∷ arc 1 1 ∷ []) ≡ true)
delay_cycle = (refl, refl)

-- Operators that wait for nothing, with a sensor each, which lasts 4 or 0: the slower one has the rate, by one turn or by two.
lone_sustains : (sustains 1 multi_graph lone_schedule 4 1 (4 ∷ 0 ∷ []) ≡ true)
    × (sustains 1 multi_graph lone_schedule 3 1 (4 ∷ 0 ∷ []) ≡ false) × (sustains 1 multi_graph lone_schedule 4 1 (3 ∷ 0 ∷ []) ≡ false)
lone_sustains = (refl, refl, refl)

lone_cycle : (critical 1 multi_graph lone_schedule 4 1 0 (arc 1 0 ∷ []) ≡ true) × (critical 1 multi_graph lone_schedule 4 1 0 (arc 1 0 ∷ arc 1 0 ∷ []) ≡ true)
    × (critical 1 multi_graph lone_schedule 4 1 1 (arc 1 1 ∷ []) ≡ false) × (critical 1 multi_graph lone_schedule 0 1 1 (arc 1 1 ∷ []) ≡ true)
lone_cycle = (refl, refl, refl, refl)

-- no arcs are no cycle; an arc over another number of reactions is not there
lone_others : (is_cycle 1 multi_graph.vertices (acts lone_schedule) 0 [] ≡ false)
    × (is_cycle 1 multi_graph.vertices (acts lone_schedule) 0 (arc 2 0 ∷ []) ≡ false)
    × (is_cycle 1 multi_graph.vertices (acts lone_schedule) 0 (arc 1 1 ∷ []) ≡ false)
lone_others = (refl, refl, refl)

-- without acts every rate is sustained
nothing_sustains : sustains 1 plain_graph (schedule []) 0 1 [] ≡ true
nothing_sustains = refl

-- The bus: the chart has length 14; its own dates fit twelve ticks, and not eleven.
bus_sustains : (sustains 1 bus_graph (bus_schedule 3 13) 14 1 (1 ∷ 11 ∷ 3 ∷ 13 ∷ 14 ∷ 12 ∷ []) ≡ true)
    × (sustains 1 bus_graph (bus_schedule 3 13) 12 1 (1 ∷ 11 ∷ 3 ∷ 13 ∷ 14 ∷ 12 ∷ []) ≡ true)
    × (sustains 1 bus_graph (bus_schedule 3 13) 11 1 (1 ∷ 11 ∷ 3 ∷ 13 ∷ 14 ∷ 12 ∷ []) ≡ false)
bus_sustains = (refl, refl, refl)

-- once round the first operator: the sensor, the function, the actuator, and back to the sensor of the next reaction
abbrev bus_way : List Arc
bus_way = arc 0 0 ∷ arc 0 1 ∷ arc 1 5 ∷ []

bus_cycle : is_critical_cycle 1 bus_graph.vertices (acts (bus_schedule 3 13)) (stated_at (acts (bus_schedule 3 13))) 12 1 0 bus_way ≡ true
bus_cycle = refl

-- no dates fit eleven ticks
bus_least : (offset : ℕ → ℕ) → Sustains 1 bus_graph.vertices (acts (bus_schedule 3 13)) (stated_at (acts (bus_schedule 3 13))) 11 1 offset → ⊥
bus_least offset s =
    let c = ((cycle_is_tested 1 bus_graph.vertices (acts (bus_schedule 3 13)) 0 bus_way).1 (stated_at (acts (bus_schedule 3 13))) 12 1).0 bus_cycle in
    let z : 1 * 12 ≤ 11 * 1 = no_rate_is_below_a_cycle 1 bus_graph.vertices (acts (bus_schedule 3 13)) (stated_at (acts (bus_schedule 3 13))) offset 11 1 s 0 bus_way c.cycle in
    omega arith

-- Two operators that wait for each other: each first senses, and then drives what the other one has sensed; the transfers last 5 and 6, all else lasts 1.
abbrev cross_schedule : Schedule
cross_schedule = schedule (placed 0 0 0 1 [] ∷ placed 1 1 0 1 [] ∷ placed 2 1 6 7 (carried 0 0 0 1 1 6 ∷ []) ∷ placed 3 0 7 8 (carried 1 1 1 0 1 7 ∷ []) ∷ [])

abbrev cross_medium : ℕ → ℕ → Medium
cross_medium c fixed = record { name = c ∷ []; kind = PointToPoint; fixed = fixed; per = 1; stands = 0 ∷ 1 ∷ [] }

abbrev cross_archi : Architecture
cross_archi = archi ((80 ∷ []) ∷ (81 ∷ []) ∷ []) (cross_medium 109 4 ∷ cross_medium 110 5 ∷ [])

cross_valid : is_valid multi_graph cross_archi (λ v o. Some 1) cross_schedule ≡ true
cross_valid = refl

cross_sustains : (sustains 1 multi_graph cross_schedule 15 2 (3 ∷ 2 ∷ 13 ∷ 15 ∷ 14 ∷ 16 ∷ []) ≡ true)
    × (sustains 1 multi_graph cross_schedule 14 2 (3 ∷ 2 ∷ 13 ∷ 15 ∷ 14 ∷ 16 ∷ []) ≡ false)
cross_sustains = (refl, refl)

abbrev cross_way : List Arc
cross_way = arc 0 0 ∷ arc 0 2 ∷ arc 1 3 ∷ arc 0 1 ∷ arc 0 4 ∷ arc 1 5 ∷ []

cross_cycle : is_critical_cycle 1 multi_graph.vertices (acts cross_schedule) (stated_at (acts cross_schedule)) 15 2 0 cross_way ≡ true
cross_cycle = refl

-- it follows that no act ends later than in the chart repeated
no_later : NoLaterThanStated
no_later depth g a ticks s lasts ends deep valid short are k i x e =
    let above = rates_are_sustained depth g.vertices (acts s) (stated_at (acts s)) (λ i. with_act (slice_get (acts s) i) end_of)
    (length_of s) 1 lasts ends deep (chart_is_sustained depth g a ticks s deep valid)
    (λ j h y q. let z = ap (λ (o : Option Act). with_act o stated) q in let l = short j h y q in omega arith) are k i x e in
    let end = ap (λ (o : Option Act). with_act o end_of) e in
    omega arith
