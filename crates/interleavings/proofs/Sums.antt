-- Sums over the numbers below one.
use Rattle.std.proofs.Common.{◌≡◌, ◌≢◌, ℕ, zero, suc, ◌+◌, ◌<◌, ◌≤◌, ◌⊎◌, inl, inr, refl, ap, sym, arith, ◌∙◌}
use Rattle.std.proofs.lemmas.Bool.{cases_eq}
use Rattle.interleavings.specs.Owners.{sum_below}

pub same_below : (f g : ℕ → ℕ) (n : ℕ) → ((i : ℕ) → i < n → f i ≡ g i) → sum_below f n ≡ sum_below g n
same_below f g zero h = refl
same_below f g (suc n) h = let e = same_below f g n (λ i l. h i (omega arith)) in let d = h n (omega arith) in omega arith

pub none_below : (f : ℕ → ℕ) (n : ℕ) → ((i : ℕ) → i < n → f i ≡ 0) → sum_below f n ≡ 0
none_below f zero h = refl
none_below f (suc n) h = let e = none_below f n (λ i l. h i (omega arith)) in let d = h n (omega arith) in omega arith

pub both_below : (f g : ℕ → ℕ) (n : ℕ) → sum_below (λ i. f i + g i) n ≡ sum_below f n + sum_below g n
both_below f g zero = refl
both_below f g (suc n) = let e = both_below f g n in omega arith

pub le_below : (f g : ℕ → ℕ) (n : ℕ) → ((i : ℕ) → i < n → f i ≤ g i) → sum_below f n ≤ sum_below g n
le_below f g zero h = omega arith
le_below f g (suc n) h = let e = le_below f g n (λ i l. h i (omega arith)) in let d = h n (omega arith) in omega arith

-- one term is no more than the sum
pub member_below : (f : ℕ → ℕ) (n i : ℕ) → i < n → f i ≤ sum_below f n
member_below f zero i l = absurd (omega arith)
member_below f (suc n) i l = by (cases_eq n i) (λ k. member_below f n i k)
  where
    by : (n ≡ i) ⊎ (n ≡ i → ⊥) → (i < n → f i ≤ sum_below f n) → f i ≤ sum_below f (suc n)
    by (inl q) r = let z = ap f q in omega arith
    by (inr q) r = let z = r (omega arith) in omega arith

-- where one term is one more, the sum is one more
pub more_below : (f g : ℕ → ℕ) (n s : ℕ) → s < n → g s ≡ f s + 1 → ((t : ℕ) → t ≢ s → g t ≡ f t) → sum_below g n ≡ sum_below f n + 1
more_below f g zero s l e h = absurd (omega arith)
more_below f g (suc n) s l e h = by (cases_eq n s) (λ k. more_below f g n s k e h)
  where
    by : (n ≡ s) ⊎ (n ≡ s → ⊥) → (s < n → sum_below g n ≡ sum_below f n + 1) → sum_below g (suc n) ≡ sum_below f (suc n) + 1
    by (inl q) r = let a = same_below g f n (λ t k. h t (λ z. omega arith)) in let b : g n ≡ f n + 1 = ap g q ∙ e ∙ ap (λ (i : ℕ). f i + 1) (sym q) in omega arith
    by (inr q) r = let a = r (omega arith) in let b = h n q in omega arith
