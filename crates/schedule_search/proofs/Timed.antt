-- How long the operations last that are left.
use Rattle.std.proofs.Common.{◌≡◌, ℕ, zero, suc, ◌+◌, ◌<◌, ◌≤◌, Bool, true, false, cond, List, [], ◌∷◌, map, Option, Some, refl, sym, ap, subst, arith, ◌∙◌}
use Rattle.std.specs.Prelude.{slice_get, sum}
use Rattle.std.proofs.lemmas.Bool.{false≢true, true≢false}
use Rattle.std.proofs.lemmas.Option.{same_Some}
use Rattle.self_timed.proofs.KindLens.{sum-cons}
use Rattle.schedule_search.specs.Alone.{time_left}

pub all_left : (f : ℕ → ℕ) (test : ℕ → Bool) → ((x : ℕ) → test x ≡ false) → (xs : List ℕ) → time_left f test xs ≡ sum (map f xs)
all_left f test none [] = refl
all_left f test none (x ∷ xs) = ap (λ (b : Bool). cond b (time_left f test xs) (f x + time_left f test xs)) (none x)
    ∙ ap (λ (n : ℕ). f x + n) (all_left f test none xs) ∙ sym (sum-cons (f x) (map f xs))

-- where more pass, no more time is left
no_more : (f : ℕ → ℕ) (g h : ℕ → Bool) → ((x : ℕ) → g x ≡ true → h x ≡ true) → (xs : List ℕ) → time_left f h xs ≤ time_left f g xs
no_more f g h more [] = omega arith
no_more f g h more (x ∷ xs) = by (g x) (h x) (more x) (no_more f g h more xs)
  where
    by : (b c : Bool) → (b ≡ true → c ≡ true) → time_left f h xs ≤ time_left f g xs → cond c (time_left f h xs) (f x + time_left f h xs) ≤ cond b (time_left f g xs) (f x + time_left f g xs)
    by true true m l = l
    by true false m l = absurd (false≢true (m refl))
    by false true m l = omega arith
    by false false m l = omega arith

-- one that passes now has taken its time
pub less_left : (f : ℕ → ℕ) (g h : ℕ → Bool) → ((x : ℕ) → g x ≡ true → h x ≡ true) → (xs : List ℕ) (k u : ℕ) → slice_get xs k ≡ Some u
    → g u ≡ false → h u ≡ true → time_left f h xs + f u ≤ time_left f g xs
less_left f g h more [] k u e i j = absurd cc
less_left f g h more (x ∷ xs) zero u e i j = let same = same_Some x u e in by (g x) (h x) (ap g same ∙ i) (ap h same ∙ j) (ap f same) (no_more f g h more xs)
  where
    by : (b c : Bool) → b ≡ false → c ≡ true → f x ≡ f u → time_left f h xs ≤ time_left f g xs
        → cond c (time_left f h xs) (f x + time_left f h xs) + f u ≤ cond b (time_left f g xs) (f x + time_left f g xs)
    by false true i j s l = omega arith
    by true c i j s l = absurd (true≢false i)
    by false false i j s l = absurd (false≢true j)
less_left f g h more (x ∷ xs) (suc k) u e i j = by (g x) (h x) (more x) (less_left f g h more xs k u e i j)
  where
    by : (b c : Bool) → (b ≡ true → c ≡ true) → time_left f h xs + f u ≤ time_left f g xs
        → cond c (time_left f h xs) (f x + time_left f h xs) + f u ≤ cond b (time_left f g xs) (f x + time_left f g xs)
    by true true m l = l
    by true false m l = absurd (false≢true (m refl))
    by false true m l = omega arith
    by false false m l = omega arith
