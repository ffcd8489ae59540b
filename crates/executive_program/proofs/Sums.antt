-- Sums over numbers and over lists.
use Rattle.std.proofs.Common.{◌≡◌, ℕ, zero, suc, ◌+◌, ◌<◌, ◌⊎◌, inl, inr, Bool, true, false, cond, nat_eq, List, [], ◌∷◌, Some, refl, sym, ap, arith, ◌∙◌}
use Rattle.std.specs.Prelude.{slice_get}
use Rattle.std.specs.List.{sum_by}
use Rattle.std.proofs.lemmas.Bool.{cases_eq, cases_Bool, eq-eqb, ne_eqb}
use Rattle.std.proofs.lemmas.List.Sums.{sum_by-cons}
use Rattle.interleavings.specs.Owners.{sum_below}
use Rattle.interleavings.proofs.Sums.{same_below, both_below, none_below}

-- a sum of sums in the other order
pub swapped : (f : ℕ → ℕ → ℕ) (m n : ℕ) → sum_below (λ i. sum_below (f i) n) m ≡ sum_below (λ k. sum_below (λ i. f i k) m) n
swapped f zero n = sym (none_below (λ k. 0) n (λ k l. refl))
swapped f (suc m) n = ap (λ (x : ℕ). x + sum_below (f m) n) (swapped f m n) ∙ sym (both_below (λ k. sum_below (λ i. f i k) m) (f m) n)

-- one term of a sum
pub picked : (f : ℕ → ℕ) (n r : ℕ) → r < n → sum_below (λ i. cond (nat_eq r i) (f i) 0) n ≡ f r
picked f zero r l = absurd (omega arith)
picked f (suc n) r l = by (cases_eq r n) (λ k. picked f n r k)
  where
    by : (r ≡ n) ⊎ (r ≡ n → ⊥) → (r < n → sum_below (λ i. cond (nat_eq r i) (f i) 0) n ≡ f r) → sum_below (λ i. cond (nat_eq r i) (f i) 0) (suc n) ≡ f r
    by (inl e) k =
        let a = none_below (λ i. cond (nat_eq r i) (f i) 0) n (λ i h. rw (ne_eqb r i (λ q. omega arith)) refl) in
        let b : cond (nat_eq r n) (f n) 0 ≡ f n = rw (eq-eqb r n e) refl in
        let d = ap f e in omega arith
    by (inr q) k = let a = k (omega arith) in let b : cond (nat_eq r n) (f n) 0 ≡ 0 = rw (ne_eqb r n q) refl in omega arith

-- the sums over a list in the other order
pub summed : {A : Type 0} (f : ℕ → A → ℕ) (n : ℕ) (xs : List A) → sum_by (λ x. sum_below (λ q. f q x) n) xs ≡ sum_below (λ q. sum_by (f q) xs) n
summed f n [] = sym (none_below (λ q. 0) n (λ q l. refl))
summed f n (x ∷ xs) = sum_by-cons (λ y. sum_below (λ q. f q y) n) x xs ∙ ap (λ (k : ℕ). sum_below (λ q. f q x) n + k) (summed f n xs)
    ∙ sym (same_below (λ q. sum_by (f q) (x ∷ xs)) (λ q. f q x + sum_by (f q) xs) n (λ q l. sum_by-cons (f q) x xs) ∙ both_below (λ q. f q x) (λ q. sum_by (f q) xs) n)

module _ {A : Type 0} (test : A → Bool) (d : ℕ) where
  abbrev pub of_one : A → ℕ
  of_one x = cond (test x) d 0

  -- none in the list passes
  pub none_passes : (xs : List A) → ((a : ℕ) (x : A) → slice_get xs a ≡ Some x → test x ≡ true → ⊥) → sum_by of_one xs ≡ 0
  none_passes [] h = refl
  none_passes (x ∷ xs) h = let e = none_passes xs (λ a y. h (suc a) y) in let b = sum_by-cons of_one x xs in let c = zero_of x (h 0 x refl) in omega arith
    where
      zero_of : (x : A) → (test x ≡ true → ⊥) → of_one x ≡ 0
      zero_of x n = by (cases_Bool (test x))
        where
          by : (test x ≡ true) ⊎ (test x ≡ false) → of_one x ≡ 0
          by (inl e) = absurd (n e)
          by (inr e) = rw e refl

  -- exactly one passes
  pub one_passes : (xs : List A) (a : ℕ) (x : A) → slice_get xs a ≡ Some x → test x ≡ true → ((b : ℕ) (y : A) → slice_get xs b ≡ Some y → test y ≡ true → b ≡ a) → sum_by of_one xs ≡ d
  one_passes [] a x s t h = absurd (cc)
  one_passes (y ∷ ys) zero x s t h =
      let same : y ≡ x = cc in
      let e = none_passes ys (λ b z k u. absurd (let q = h (suc b) z k u in omega arith)) in
      let b = sum_by-cons of_one y ys in
      let c : of_one y ≡ d = rw (ap test same ∙ t) refl in omega arith
  one_passes (y ∷ ys) (suc a) x s t h =
      let e = one_passes ys a x s t (λ b z k u. let q = h (suc b) z k u in omega arith) in
      let b = sum_by-cons of_one y ys in
      let c = none_passes (y ∷ []) (λ b z k u. at_zero b z k u) in let f = sum_by-cons of_one y [] in omega arith
    where
      at_zero : (b : ℕ) (z : A) → slice_get (y ∷ []) b ≡ Some z → test z ≡ true → ⊥
      at_zero zero z k u = let q = h 0 z k u in omega arith
      at_zero (suc b) z k u = absurd (cc)
