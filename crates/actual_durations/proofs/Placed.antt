-- In a valid schedule operations and operators are there.
use Rattle.std.proofs.Common.{◌≡◌, ℕ, zero, suc, ◌<◌, Bool, true, false, ◌==◌, not, cond, List, [], ◌∷◌, ◌++◌, map, length, Option, Some, None, All, refl, arith}
use Rattle.std.specs.Prelude.{slice_get, nat_lt, option_map}
use Rattle.std.specs.List.{find, range_with_len, list_any}
use Rattle.std.proofs.lemmas.Bool.{false≢true, and_parts, ltb-true}
use Rattle.std.proofs.lemmas.Option.{slice_get_within}
use Rattle.schedule.specs.declared.Vertex.{Vertex}
use Rattle.schedule.specs.Graph.{Graph, with_vertex}
use Rattle.schedule.specs.Archi.{Architecture}
use Rattle.schedule.specs.declared.decision.Transfer.{Transfer}
use Rattle.schedule.specs.declared.decision.Decision.{Decision}
use Rattle.schedule.specs.declared.decision.Schedule.{Schedule}
use Rattle.schedule.specs.Acts.{Act, carry, run, acts, acts_of, is_on, runs}
use Rattle.schedule.specs.Valid.{have_ended, lasts, follows_get, is_placement, is_act, is_right, are_right, is_valid}
use Rattle.actual_durations.specs.Actual.{operator_of, operators_of}
use Rattle.actual_durations.specs.Answers.{IsOneOf}

abbrev Each : {A : Type 0} → (A → Type 0) → List A → Type 0
Each P [] = Unit {0}
Each P (x ∷ xs) = P x × Each P xs

all_of : {A : Type 0} (P : A → Type 0) (xs : List A) → Each P xs → All P xs
all_of P [] h k d less = absurd (omega arith)
all_of P (x ∷ xs) h zero d less = h.0
all_of P (x ∷ xs) h (suc k) d less = all_of P xs h.1 k d (omega arith)

module _ (g : Graph) (a : Architecture) (ticks : ℕ → ℕ → Option ℕ) where
  -- what is asked of a decision's operation and of its operator
  pub record IsThere (d : Decision) : Type 0 where
    pub op : d.op < length g.vertices
    pub operator : d.operator < length a.operators

  there : (before : List Act) (d : Decision) → is_placement g a ticks before d ≡ true → IsThere d
  there before d h =
      let free = and_parts _ (have_ended (is_on d.operator) before d.start) h in
      let new = and_parts _ (not (list_any (runs d.op) before)) free.0 in
      let timing = and_parts _ (lasts (ticks d.op d.operator) d.start d.end) new.0 in
      let stands = and_parts (with_vertex (slice_get g.vertices d.op) false (λ x. follows_get before d.operator x.kind x.twin)) (nat_lt d.operator (length a.operators)) timing.0 in
      record { op = by (slice_get g.vertices d.op) refl stands.0; operator = ltb-true d.operator (length a.operators) stands.1 }
    where
      by : (o : Option Vertex) → slice_get g.vertices d.op ≡ o → with_vertex o false (λ x. follows_get before d.operator x.kind x.twin) ≡ true → d.op < length g.vertices
      by None is k = absurd (false≢true k)
      by (Some x) is k = slice_get_within g.vertices d.op x is

  -- past the transfers of a decision
  past : (before : List Act) (ts : List Transfer) (rest : List Act) → are_right g a ticks before (map carry ts ++ rest) ≡ true → (b : List Act) × (are_right g a ticks b rest ≡ true)
  past before [] rest h = (before, h)
  past before (t ∷ ts) rest h = past (before ++ carry t ∷ []) ts rest (and_parts (is_right g a ticks before (carry t)) _ h).1

  there_from : (before : List Act) (ds : List Decision) → are_right g a ticks before (acts_of ds) ≡ true → Each IsThere ds
  there_from before [] h = tt
  there_from before (d ∷ ds) h =
      let k = past before d.transfers (run d ∷ acts_of ds) h in
      let r = and_parts (is_right g a ticks k.0 (run d)) (are_right g a ticks (k.0 ++ run d ∷ []) (acts_of ds)) k.1 in
      (there k.0 d (and_parts (is_act g a ticks k.0 (run d)) _ r.0).0, there_from (k.0 ++ run d ∷ []) ds r.1)

  all_there : (s : Schedule) → is_valid g a ticks s ≡ true → Each IsThere s.decisions
  all_there s h = there_from [] s.decisions (and_parts (are_right g a ticks [] (acts s)) _ h).0

  ops_of : (ds : List Decision) → Each IsThere ds → Each (λ d. d.op < length g.vertices) ds
  ops_of [] h = tt
  ops_of (d ∷ ds) h = (h.0.op, ops_of ds h.1)

  pub ops_there : (s : Schedule) → is_valid g a ticks s ≡ true → All (λ d. d.op < length g.vertices) s.decisions
  ops_there s h = all_of (λ d. d.op < length g.vertices) s.decisions (ops_of s.decisions (all_there s h))

  one_there : (ds : List Decision) → Each IsThere ds → (v : ℕ) → IsOneOf (length a.operators) (operator_of ds v)
  one_there [] h v = tt
  one_there (d ∷ ds) h v = by (d.op == v) (one_there ds h.1 v)
    where
      by : (b : Bool) → IsOneOf (length a.operators) (operator_of ds v)
          → IsOneOf (length a.operators) (option_map (λ (q : Decision). q.operator) (cond b (Some d) (find (λ (q : Decision). q.op == v) ds)))
      by true rest = h.0.operator
      by false rest = rest

  pub operators_there : (s : Schedule) → is_valid g a ticks s ≡ true → (n : ℕ) → All (IsOneOf (length a.operators)) (operators_of s.decisions n)
  operators_there s h n = all_of (IsOneOf (length a.operators)) (operators_of s.decisions n) (by (range_with_len 0 n))
    where
      by : (vs : List ℕ) → Each (IsOneOf (length a.operators)) (map (operator_of s.decisions) vs)
      by [] = tt
      by (v ∷ vs) = (one_there s.decisions (all_there s h) v, by vs)
