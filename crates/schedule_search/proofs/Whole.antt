-- A draft in which nothing is left to place is a valid schedule.
use Rattle.std.proofs.Common.{◌≡◌, ℕ, zero, suc, ◌+◌, ◌<◌, Bool, true, false, cond, ◌&&◌, not, List, [], ◌∷◌, ◌++◌, length, Option, Some, None, refl, sym, ap, subst, arith, ◌∙◌, inl, inr, ◌⊎◌}
use Rattle.std.specs.Prelude.{IsTrue, slice_get, nat_lt}
use Rattle.std.specs.List.{filter, list_all, range_with_len}
use Rattle.std.specs.Cmp.Derive.{both_true}
use Rattle.std.proofs.lemmas.Bool.{false≢true, and_parts, ltb-true}
use Rattle.std.proofs.lemmas.Option.{same_Some}
use Rattle.comm_routing.specs.Task.{Task}
use Rattle.comm_routing.specs.Given.{IsTask}
use Rattle.comm_routing.specs.Laws.{AreRight}
use Rattle.comm_routing.specs.Placing.{is_candidate, is_placed, needs}
use Rattle.pressure_heuristic.specs.Pressure.{operations}
use Rattle.pressure_heuristic.proofs.Lists.{all_or_not}
use Rattle.pressure_heuristic.proofs.Whole.{chosen, in_range, never_stuck}
use Rattle.self_timed.specs.declared.Decision.{Decision}
use Rattle.self_timed.specs.Acts.{Act, acts_of}
use Rattle.self_timed.specs.ScheduleValid.{are_placed, is_valid}
use Rattle.schedule_search.specs.Drafts.{DraftsAreValid, IsDone}

-- where none passes, none that stands there does
pub none_passes : {A : Type 0} (test : A → Bool) (xs : List A) → filter test xs ≡ [] → (k : ℕ) (x : A) → slice_get xs k ≡ Some x → test x ≡ true → ⊥
none_passes test [] e k x is h = absurd cc
none_passes test (y ∷ xs) e zero x is h = by (test y) (ap test (same_Some y x is) ∙ h) e
  where
    by : (b : Bool) → b ≡ true → cond b (y ∷ filter test xs) (filter test xs) ≡ [] → ⊥
    by true h e = absurd cc
    by false h e = false≢true h
none_passes test (y ∷ xs) e (suc k) x is h = by (test y) e (λ z. none_passes test xs z k x is h)
  where
    by : (b : Bool) → cond b (y ∷ filter test xs) (filter test xs) ≡ [] → (filter test xs ≡ [] → ⊥) → ⊥
    by true e later = absurd cc
    by false e later = later e

-- where all fail, none passes
pub passes_none : {A : Type 0} (test : A → Bool) (xs : List A) → ((k : ℕ) (x : A) → slice_get xs k ≡ Some x → test x ≡ false) → filter test xs ≡ []
passes_none test [] h = refl
passes_none test (x ∷ xs) h = ap (λ (b : Bool). cond b (x ∷ filter test xs) (filter test xs)) (h 0 x refl) ∙ passes_none test xs (λ k y e. h (suc k) y e)

-- the number at a place of a range is below its end
pub below : (a n k v : ℕ) → slice_get (range_with_len a n) k ≡ Some v → v < a + n
below a zero k v e = absurd cc
below a (suc n) zero v e = let z = same_Some a v e in omega arith
below a (suc n) (suc k) v e = let z = below (a + 1) n k v e in omega arith

module _ (t : Task) (given : IsTask t) (ds : List Decision) (right : AreRight t ds) where
  -- what a candidate is
  candidate_below : (v : ℕ) → is_candidate t (acts_of ds) v ≡ true → v < length t.graph.vertices
  candidate_below v h =
      let there = nat_lt v (length t.graph.vertices) in
      let fresh = not (is_placed (acts_of ds) v) in
      ltb-true v (length t.graph.vertices) (and_parts there fresh (and_parts (there && fresh) (list_all (is_placed (acts_of ds)) (needs t v)) h).0).0

  pub all_placed : IsDone t ds → are_placed t.graph t.archi t.ticks (acts_of ds) ≡ true
  all_placed done = by (all_or_not (is_placed (acts_of ds)) (operations t))
    where
      by : (list_all (is_placed (acts_of ds)) (operations t) ≡ true)
          ⊎ ((k : ℕ) × (v : ℕ) × (slice_get (operations t) k ≡ Some v) × (is_placed (acts_of ds) v ≡ false))
          → list_all (is_placed (acts_of ds)) (operations t) ≡ true
      by (inl h) = h
      by (inr r) =
          let low = below 0 (length t.graph.vertices) r.0 r.1 r.2 in
          let d = never_stuck t given (acts_of ds) r.1 right (omega arith) r.3 in
          let c = chosen t (acts_of ds) d.0 d.1 in
          absurd (none_passes (is_candidate t (acts_of ds)) (operations t) done c.op c.op (in_range (length t.graph.vertices) c.op (candidate_below c.op c.candidate)) c.candidate)

pub drafts_are_valid : DraftsAreValid
drafts_are_valid t given ds right done = both_true right (all_placed t given ds right done)
