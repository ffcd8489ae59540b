-- Counting in lists, and a test that is the sum of others.
use Rattle.std.proofs.Common.{◌≡◌, ℕ, zero, suc, ◌+◌, ◌<◌, ◌⊎◌, Bool, true, false, cond, List, [], ◌∷◌, take, Option, Some, None, refl, sym, ap, inl, inr, ⊎_elim, arith, ◌∙◌}
use Rattle.std.specs.Prelude.{slice_get}
use Rattle.std.specs.List.{count_by}
use Rattle.std.proofs.lemmas.Option.{same_Some}
use Rattle.std.proofs.lemmas.Bool.{cases_eq, cases_Bool, both_ways}
use Rattle.std.proofs.lemmas.List.Sums.{sum_by-cons}
use Rattle.executive_program.specs.Sites.{hit}
use Rattle.executive_program.specs.System.{Micro}
use Rattle.executive_program.proofs.InterleavingSums.{none_below}
use Rattle.executive_program.specs.Owners.{sum_below}

module _ {A : Type 0} (f : A → Bool) where
  abbrev pub one_if : A → ℕ
  one_if x = cond (f x) 1 0

  pub count_cons : (x : A) (xs : List A) → count_by f (x ∷ xs) ≡ one_if x + count_by f xs
  count_cons x xs = sum_by-cons (λ y. cond (f y) 1 0) x xs

  one_here : (x y : A) → ◌≡◌ {A = Option A} (Some x) (Some y) → f y ≡ true → one_if x ≡ 1
  one_here x y e h = rw (ap f (same_Some x y e) ∙ h) refl

  pub count_more : (xs : List A) (a b : ℕ) (x : A) → slice_get xs a ≡ Some x → f x ≡ true → a < b → count_by f (take a xs) < count_by f (take b xs)
  count_more [] a b x e h l = absurd cc
  count_more (y ∷ ys) a zero x e h l = absurd (omega arith)
  count_more (y ∷ ys) zero (suc b) x e h l = let u = count_cons y (take b ys) in let v = one_here y x e h in omega arith
  count_more (y ∷ ys) (suc a) (suc b) x e h l = let r = count_more ys a b x e h (omega arith) in let u = count_cons y (take b ys) in let v = count_cons y (take a ys) in omega arith

  pub count_less : (xs : List A) (a : ℕ) (x : A) → slice_get xs a ≡ Some x → f x ≡ true → count_by f (take a xs) < count_by f xs
  count_less [] a x e h = absurd cc
  count_less (y ∷ ys) zero x e h = let u = count_cons y ys in let v = one_here y x e h in omega arith
  count_less (y ∷ ys) (suc a) x e h = let r = count_less ys a x e h in let u = count_cons y ys in let v = count_cons y (take a ys) in omega arith

sum_one : (f : ℕ → ℕ) (n i : ℕ) → i < n → f i ≡ 1 → ((j : ℕ) → (j ≡ i → ⊥) → f j ≡ 0) → sum_below f n ≡ 1
sum_one f zero i l h o = absurd (omega arith)
sum_one f (suc n) i l h o = by (cases_eq i n) (λ k. sum_one f n i k h o)
  where
    by : (i ≡ n) ⊎ (i ≡ n → ⊥) → (i < n → sum_below f n ≡ 1) → sum_below f (suc n) ≡ 1
    by (inl e) r = let z = none_below f n (λ j k. o j (λ q. omega arith)) in let y = ap f e in omega arith
    by (inr e) r = let z = r (omega arith) in let y = o n (λ q. e (sym q)) in omega arith

-- What passes one test of a family passes exactly one of its members.
pub covered : (all : Micro → Bool) (one : ℕ → Micro → Bool) (n : ℕ) (o : Option Micro)
    → ((d : Micro) → o ≡ Some d → all d ≡ true → (i : ℕ) × (i < n) × (one i d ≡ true) × ((j : ℕ) → one j d ≡ true → j ≡ i))
    → ((d : Micro) (j : ℕ) → one j d ≡ true → all d ≡ true)
    → hit all o ≡ sum_below (λ i. hit (one i) o) n
covered all one n None f g = sym (none_below (λ i. hit (one i) None) n (λ i l. refl))
covered all one n (Some d) f g = by (cases_Bool (all d))
  where
    no_hit : (j : ℕ) → (one j d ≡ true → ⊥) → hit (one j) (Some d) ≡ 0
    no_hit j k = ⊎_elim (λ e. absurd (k e)) (λ e. rw e refl) (cases_Bool (one j d))

    by : (all d ≡ true) ⊎ (all d ≡ false) → hit all (Some d) ≡ sum_below (λ i. hit (one i) (Some d)) n
    by (inl e) = let q = f d refl e in rw e (sym (sum_one (λ i. hit (one i) (Some d)) n q.0 q.1 (rw q.2 refl) (λ j k. no_hit j (λ u. k (q.3 j u)))))
    by (inr e) = rw e (sym (none_below (λ i. hit (one i) (Some d)) n (λ j l. no_hit j (λ u. both_ways (all d) e (g d j u)))))
