-- The totals that counts tell: one more step, and a test that one sequence owns.
use Rattle.std.proofs.Common.{◌≡◌, ℕ, zero, suc, ◌+◌, ◌<◌, ◌≤◌, ◌⊎◌, Bool, refl, sym, ap, subst, inl, inr, arith, ◌∙◌, add-one}
use Rattle.std.proofs.lemmas.Bool.{cases_eq}
use Rattle.interleavings.specs.Precedence.{one_more, IsMade}
use Rattle.interleavings.specs.Sites.{step_at, hit, passes}
use Rattle.interleavings.specs.System.{System, Micro, total_to, total}
use Rattle.interleavings.specs.Owners.{Owner, IsOwned, nth_of}
use Rattle.interleavings.proofs.Cuts.{one_more-same, one_more-other}
use Rattle.interleavings.proofs.Counting.{nth_made}

module _ {P : Type 0} (w : System P) (p : Micro → Bool) where
  passes_one : (s n : ℕ) → passes p (w.codes s) (n + 1) ≡ passes p (w.codes s) n + hit p (step_at (w.codes s) n)
  passes_one s n = rw add-one refl

  same_at : (c : ℕ → ℕ) (s t : ℕ) → (t ≡ s → ⊥) → passes p (w.codes t) (one_more c s t) ≡ passes p (w.codes t) (c t)
  same_at c s t h = ap (passes p (w.codes t)) (one_more-other c s t h)

  more_at : (c : ℕ → ℕ) (s : ℕ) → passes p (w.codes s) (one_more c s s) ≡ passes p (w.codes s) (c s) + hit p (step_at (w.codes s) (c s))
  more_at c s = ap (passes p (w.codes s)) (one_more-same c s) ∙ passes_one s (c s)

  below : (c : ℕ → ℕ) (s n : ℕ) → n ≤ s → total_to w p (one_more c s) n ≡ total_to w p c n
  below c s zero h = refl
  below c s (suc n) h = let e = below c s n (omega arith) in let f = same_at c s n (λ q. omega arith) in omega arith

  more_to : (c : ℕ → ℕ) (s n : ℕ) → s < n → total_to w p (one_more c s) n ≡ total_to w p c n + hit p (step_at (w.codes s) (c s))
  more_to c s zero h = absurd (omega arith)
  more_to c s (suc n) h = by (cases_eq n s) (λ l. more_to c s n l)
    where
      by : (n ≡ s) ⊎ (n ≡ s → ⊥) → (s < n → total_to w p (one_more c s) n ≡ total_to w p c n + hit p (step_at (w.codes s) (c s)))
          → total_to w p (one_more c s) (suc n) ≡ total_to w p c (suc n) + hit p (step_at (w.codes s) (c s))
      by (inl e) i = let g = below c s n (omega arith) in
          let f : passes p (w.codes n) (one_more c s n) ≡ passes p (w.codes n) (c n) + hit p (step_at (w.codes s) (c s)) =
          subst (λ (x : ℕ). passes p (w.codes x) (one_more c s x) ≡ passes p (w.codes x) (c x) + hit p (step_at (w.codes s) (c s))) (sym e) (more_at c s) in omega arith
      by (inr e) i = let g = i (omega arith) in let f = same_at c s n e in omega arith

  pub total_more : (c : ℕ → ℕ) (s : ℕ) → s < w.sequences → total w p (one_more c s) ≡ total w p c + hit p (step_at (w.codes s) (c s))
  total_more c s h = more_to c s w.sequences h

  module _ (o : Owner) (h : IsOwned w p o) where
    none_at : (s n : ℕ) → (s ≡ o.sequence → ⊥) → passes p (w.codes s) n ≡ 0
    none_at s zero q = refl
    none_at s (suc n) q = let e = none_at s n q in let f = h.alone s n q in omega arith

    none_to : (c : ℕ → ℕ) (n : ℕ) → n ≤ o.sequence → total_to w p c n ≡ 0
    none_to c zero q = refl
    none_to c (suc n) q = let e = none_to c n (omega arith) in let f = none_at n (c n) (λ g. omega arith) in omega arith

    one_to : (c : ℕ → ℕ) (n : ℕ) → o.sequence < n → total_to w p c n ≡ passes p (w.codes o.sequence) (c o.sequence)
    one_to c zero q = absurd (omega arith)
    one_to c (suc n) q = by (cases_eq n o.sequence) (λ l. one_to c n l)
      where
        by : (n ≡ o.sequence) ⊎ (n ≡ o.sequence → ⊥) → (o.sequence < n → total_to w p c n ≡ passes p (w.codes o.sequence) (c o.sequence))
            → total_to w p c (suc n) ≡ passes p (w.codes o.sequence) (c o.sequence)
        by (inl e) i = let g = none_to c n (omega arith) in
            let f : passes p (w.codes n) (c n) ≡ passes p (w.codes o.sequence) (c o.sequence) = ap (λ (x : ℕ). passes p (w.codes x) (c x)) e in omega arith
        by (inr e) i = let g = i (omega arith) in let f = none_at n (c n) e in omega arith

    pub total_owned : (c : ℕ → ℕ) → total w p c ≡ passes p (w.codes o.sequence) (c o.sequence)
    total_owned c = one_to c w.sequences h.here

    pub total_nth : (c : ℕ → ℕ) (j : ℕ) → (j < total w p c → IsMade c (nth_of w o j)) × (IsMade c (nth_of w o j) → j < total w p c)
    total_nth c j = let f = nth_made p (w.codes o.sequence) o.site h.site (c o.sequence) j in
        (λ x. f.0 (subst (λ (y : ℕ). j < y) (total_owned c) x), λ x. subst (λ (y : ℕ). j < y) (sym (total_owned c)) (f.1 x))
