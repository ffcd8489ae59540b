-- The counts of a view after one more micro-step.
use Rattle.std.proofs.Common.{◌≡◌, ℕ, zero, suc, ◌+◌, ◌<◌, ◌≤◌, ◌⊎◌, inl, inr, cond, eqb, List, [], ◌∷◌, Option, Some, None, refl, sym, ap, arith, ◌∙◌, eq-eqb, ne_eqb}
use Rattle.std.proofs.lemmas.Bool.{cases_eq}
use Rattle.std.proofs.lemmas.Option.{same_Some}
use Rattle.word_rule.specs.declared.view.Count.{Count}
use Rattle.word_rule.specs.Views.{count_in, raised, all_from}

no_count : (n : ℕ) → ◌≡◌ {A = Option ℕ} None (Some n) → ⊥
no_count n h = cc

pub raised-same : (xs : List Count) (s n : ℕ) → count_in xs s ≡ Some n → count_in (raised xs s) s ≡ Some (n + 1)
raised-same [] s n h = absurd (no_count n h)
raised-same (x ∷ xs) s n h = by (cases_eq x.seq s) (raised-same xs s n)
  where
    by : (x.seq ≡ s) ⊎ (x.seq ≡ s → ⊥) → (count_in xs s ≡ Some n → count_in (raised xs s) s ≡ Some (n + 1)) → count_in (raised (x ∷ xs) s) s ≡ Some (n + 1)
    by (inl e) r = let a : Some x.made ≡ Some n = rw (eq-eqb x.seq s e) at h in rw (eq-eqb x.seq s e, eq-eqb x.seq s e) (ap (λ (m : ℕ). Some (m + 1)) (same_Some x.made n a))
    by (inr e) r = let a : count_in xs s ≡ Some n = rw (ne_eqb x.seq s e) at h in rw (ne_eqb x.seq s e, ne_eqb x.seq s e) (r a)

pub raised-other : (xs : List Count) (s t : ℕ) → (t ≡ s → ⊥) → count_in (raised xs s) t ≡ count_in xs t
raised-other [] s t ne = refl
raised-other (x ∷ xs) s t ne = by (cases_eq x.seq s) (raised-other xs s t ne)
  where
    by : (x.seq ≡ s) ⊎ (x.seq ≡ s → ⊥) → count_in (raised xs s) t ≡ count_in xs t → count_in (raised (x ∷ xs) s) t ≡ count_in (x ∷ xs) t
    by (inl e) r = let d : x.seq ≡ t → ⊥ = λ q. ne (sym q ∙ e) in rw (eq-eqb x.seq s e, ne_eqb x.seq t d) r
    by (inr e) r = rw (ne_eqb x.seq s e) (ap (cond (eqb x.seq t) (Some x.made)) r)

-- of the sequences from a on, none of which has made a micro-step
pub all_zero : (a n s m : ℕ) → count_in (all_from a n) s ≡ Some m → (m ≡ 0) × (a ≤ s) × (s < a + n)
all_zero a zero s m h = absurd (no_count m h)
all_zero a (suc n) s m h = by (cases_eq a s) (all_zero (suc a) n s m)
  where
    by : (a ≡ s) ⊎ (a ≡ s → ⊥) → (count_in (all_from (suc a) n) s ≡ Some m → (m ≡ 0) × (suc a ≤ s) × (s < suc a + n)) → (m ≡ 0) × (a ≤ s) × (s < a + suc n)
    by (inl e) r = let q : Some 0 ≡ Some m = rw (eq-eqb a s e) at h in (sym (same_Some 0 m q), omega arith, omega arith)
    by (inr e) r = let q : count_in (all_from (suc a) n) s ≡ Some m = rw (ne_eqb a s e) at h in let p = r q in let b = p.1 in let c = p.2 in (p.0, omega arith, omega arith)

pub all_counted : (a n s : ℕ) → a ≤ s → s < a + n → count_in (all_from a n) s ≡ Some 0
all_counted a zero s l h = absurd (omega arith)
all_counted a (suc n) s l h = by (cases_eq a s) (all_counted (suc a) n s)
  where
    by : (a ≡ s) ⊎ (a ≡ s → ⊥) → (suc a ≤ s → s < suc a + n → count_in (all_from (suc a) n) s ≡ Some 0) → count_in (all_from a (suc n)) s ≡ Some 0
    by (inl e) r = rw (eq-eqb a s e) refl
    by (inr e) r = rw (ne_eqb a s e) (r (omega arith) (omega arith))
