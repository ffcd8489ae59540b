-- The pressure run: the list of decisions in which each decision is the choice after the decisions before it.
use Rattle.std.specs.Prelude.{ℕ, zero, suc, ◌+◌, nat_eq, List, [], ◌∷◌, ◌++◌, map, length, Option, Some, None}
use Rattle.std.specs.List.{filter, list_any, range_with_len}
use Rattle.schedule.specs.Table.{least_of}
use Rattle.schedule.specs.declared.decision.Decision.{Decision}
use Rattle.schedule.specs.declared.decision.Schedule.{Schedule}
use Rattle.schedule.specs.Acts.{Act, acts_of}
use Rattle.comm_routing.specs.Task.{Task}
use Rattle.comm_routing.specs.Placing.{ticks_in, needs, start, decision, is_candidate, may_stand}
use Rattle.pressure_heuristic.specs.Choice.{first_least, first_greatest}
use Rattle.syn_base.specs.Numbers.{greatest}

-- what is made of an element, or else this
abbrev pub with_some : {A B : Type 0} → Option A → B → (A → B) → B
with_some None b f = b
with_some (Some x) b f = f x

module _ (t : Task) where
  -- All operations of the graph, by their numbers from 0.
  abbrev pub operations : List ℕ
  operations = range_with_len 0 (length t.graph.vertices)

  -- All operators of the architecture, by their numbers from 0.
  abbrev pub operators : List ℕ
  operators = range_with_len 0 (length t.archi.operators)

  -- the least duration of an operation
  abbrev pub least : ℕ → ℕ
  least v = ticks_in (least_of (map (t.ticks v) operators))

  -- the operations that depend on an operation
  abbrev pub dependents : ℕ → List ℕ
  dependents v = filter (λ s. list_any (nat_eq v) (needs t s)) operations

  -- The longest time from its end on, by least durations, along operations of which each depends on the one before.
  -- At most this many are followed.
  abbrev pub tail_within : ℕ → ℕ → ℕ
  tail_within zero v = 0
  tail_within (suc n) v = greatest (map (λ s. least s + tail_within n s) (dependents v))

  -- The tail of operation v: the most ticks that a chain of operations after it takes, each of
  -- which depends on the one before, by least durations and without transfers. It is 0 if none
  -- depends on v.
  abbrev pub tail : ℕ → ℕ
  tail v = tail_within (length t.graph.vertices) v

  -- The pressure of operation v on operator p, in ticks: the date at which it would start there if
  -- it were placed now, its duration there, and its tail, in sum.
  abbrev pub pressure : List Act → ℕ → ℕ → ℕ
  pressure before v p = start t before v p + ticks_in (t.ticks v p) + tail v

  -- The candidates after these acts, ascending by number: the operations that are not placed, while
  -- all that they depend on is.
  abbrev pub candidates : List Act → List ℕ
  candidates before = filter (is_candidate t before) operations

  -- the operator of least pressure
  abbrev pub best_operator : List Act → ℕ → Option ℕ
  best_operator before v = first_least (pressure before v) (filter (may_stand t before v) operators)

  -- that least pressure
  abbrev pub urgency_on : List Act → ℕ → Option ℕ → ℕ
  urgency_on before v None = 0
  urgency_on before v (Some p) = pressure before v p

  -- The least pressure of operation v among the operators on which it may stand, and 0 if it may
  -- stand on none.
  abbrev pub urgency : List Act → ℕ → ℕ
  urgency before v = urgency_on before v (best_operator before v)

  -- the candidate of greatest least pressure, on its operator of least pressure
  abbrev pub next : List Act → Option Decision
  next before =
      with_some (first_greatest (urgency before) (candidates before)) None
      (λ v. with_some (best_operator before v) None (λ p. Some (decision t before v p)))

  -- The decisions ds, and at most n more, each chosen after those before it.
  abbrev pub run_after : ℕ → List Decision → List Decision
  run_after zero ds = ds
  run_after (suc n) ds = with_some (next (acts_of ds)) ds (λ d. run_after n (ds ++ d ∷ []))

  -- The pressure run: the schedule in which each decision places the candidate of greatest least
  -- pressure on its operator of least pressure, until there is no such choice.
  abbrev pub pressure_run : Schedule
  pressure_run = record { decisions = run_after (length t.graph.vertices) [] }
