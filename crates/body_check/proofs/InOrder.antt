-- The checks of a graph in order.
use Rattle.std.proofs.Common.{◌≡◌, List, [], ◌∷◌, ◌++◌, sym, ◌∙◌, refl, subst}
use Rattle.std.specs.Prelude.{Option, Some, None, Result, Ok, Err}
use Rattle.algo_rules.specs.Links.{first_of}
use Rattle.algo_rules.specs.Graphs.{cycle_fault, edge_faults, graph_fault, open_faults}
use Rattle.algo_rules.specs.Placed.{Checks}
use Rattle.body_check.specs.Parts.{of, own}
use Rattle.body_check.specs.declared.parts.GraphParts.{GraphParts}
use Rattle.body_check.proofs.Steps.{first_passes, first_stops}
use Rattle.text_lines.specs.declared.fault.TextError.TheVariants as error
use Rattle.text_lines.specs.Refusals.{Refused, Limit}
use Rattle.algo_rules.specs.Refusals.{AlgoError, AlgoRefusal}

append_passes : (xs ys : List (Option AlgoRefusal)) → first_of xs ≡ None → first_of (xs ++ ys) ≡ first_of ys
append_passes [] ys h = refl
append_passes (None ∷ xs) ys h = append_passes xs ys h
append_passes (Some e ∷ xs) ys h = absurd (cc)

append_finds : (xs ys : List (Option AlgoRefusal)) (e : AlgoRefusal) → first_of xs ≡ Some e → first_of (xs ++ ys) ≡ Some e
append_finds [] ys e h = absurd (cc)
append_finds (None ∷ xs) ys e h = append_finds xs ys e h
append_finds (Some f ∷ xs) ys e h = h

append_stops : (e : AlgoError) (xs ys : List (Option AlgoRefusal)) → Checks {A = Unit {0}} (Err e) (first_of xs) → Checks {A = Unit {0}} (Err e) (first_of (xs ++ ys))
append_stops (error.Refused f) xs ys h = append_finds xs ys (Refused f) h
append_stops (error.Limit f) xs ys h = append_finds xs ys (Limit f) h
append_stops error.OutOfMemory xs ys h = h

last_checks : (r : Result (Unit {0}) AlgoError) (x : Option AlgoRefusal) → Checks r x → Checks r (first_of (x ∷ []))
last_checks (Ok done) x h = first_passes x [] h
last_checks (Err e) x h = first_stops e x [] h

module _ (g : GraphParts) where
  abbrev edges : List (Option AlgoRefusal)
  edges = edge_faults (of g) (own g) g.references.now [] g.edges.now

  abbrev open_ends : List (Option AlgoRefusal)
  open_ends = open_faults (of g) (own g) g.references.now g.line g.edges.now

  abbrev cycles : Option AlgoRefusal
  cycles = cycle_fault g.defs.now g.references.now g.line g.edges.now

  abbrev all : Option AlgoRefusal
  all = graph_fault g.defs.now (of g) g.line (own g) g.references.now g.edges.now

  pub first_checks : (e : AlgoError) → Checks {A = Unit {0}} (Err e) (first_of edges) → Checks {A = Unit {0}} (Err e) all
  first_checks e h = append_stops e (edges ++ open_ends) (cycles ∷ []) (append_stops e edges open_ends h)

  pub second_checks : (e : AlgoError) → first_of edges ≡ None → Checks {A = Unit {0}} (Err e) (first_of open_ends) → Checks {A = Unit {0}} (Err e) all
  second_checks e none h =
      append_stops e (edges ++ open_ends) (cycles ∷ []) (subst (λ (x : Option AlgoRefusal). Checks {A = Unit {0}} (Err e) x) (sym (append_passes edges open_ends none)) h)

  pub third_checks : (r : Result (Unit {0}) AlgoError) → first_of edges ≡ None → first_of open_ends ≡ None → Checks r cycles → Checks r all
  third_checks r none nor h =
      subst (λ (x : Option AlgoRefusal). Checks r x) (sym (append_passes (edges ++ open_ends) (cycles ∷ []) (append_passes edges open_ends none ∙ nor))) (last_checks r cycles h)
