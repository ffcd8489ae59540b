-- The search for the lowest that passes, and the list of those that are left.
use Rattle.std.proofs.Common.{◌≡◌, ℕ, zero, suc, ◌+◌, ◌<◌, ◌≤◌, Bool, true, false, cond, List, [], ◌∷◌, length, Some, None, refl, sym, ap, subst, arith, ◌∙◌, inl, inr}
use Rattle.std.specs.Prelude.{nat_lt}
use Rattle.std.proofs.lemmas.Bool.{cases_eq, ltb-false, le-ltb}
use Rattle.std.proofs.lemmas.Option.{same_Some}
use Rattle.sequence_build_laws.specs.declared.Program.{Program}
use Rattle.sequence_build_laws.specs.Instructions.{turn}
use Rattle.check_laws.specs.Run.{lowest, made, left_from}

-- none passes
pub lowest_none : (test : ℕ → Bool) (k n : ℕ) → lowest test k n ≡ None → (s : ℕ) → k ≤ s → s < k + n → test s ≡ false
lowest_none test k zero e s l h = absurd (omega arith)
lowest_none test k (suc n) e s l h = by (test k) refl e (λ d. lowest_none test (suc k) n d s)
  where
    by : (b : Bool) → test k ≡ b → cond b (Some k) (lowest test (suc k) n) ≡ None → (lowest test (suc k) n ≡ None → suc k ≤ s → s < suc k + n → test s ≡ false) → test s ≡ false
    by true t e r = absurd cc
    by false t e r = elim (cases_eq k s) [ inl q ↦ ap test (sym q) ∙ t | inr q ↦ r e (omega arith) (omega arith) ]

pub lowest_some : (test : ℕ → Bool) (k n s : ℕ) → lowest test k n ≡ Some s → (test s ≡ true) × (s < k + n)
lowest_some test k zero s e = absurd cc
lowest_some test k (suc n) s e = by (test k) refl e (λ d. lowest_some test (suc k) n s d)
  where
    by : (b : Bool) → test k ≡ b → cond b (Some k) (lowest test (suc k) n) ≡ Some s → (lowest test (suc k) n ≡ Some s → (test s ≡ true) × (s < suc k + n)) → (test s ≡ true) × (s < k + suc n)
    by true t e r = let q = same_Some k s e in (ap test (sym q) ∙ t, omega arith)
    by false t e r = let d = r e in let l = d.1 in (d.0, omega arith)

module _ (p : Program) (order : List ℕ) where
  pub none_left : (k n : ℕ) → left_from p order k n ≡ [] → (s : ℕ) → k ≤ s → s < k + n → length (turn p s) ≤ made order s
  none_left k zero e s l h = absurd (omega arith)
  none_left k (suc n) e s l h = by (nat_lt (made order k) (length (turn p k))) refl e (λ d. none_left (suc k) n d s)
    where
      by : (b : Bool) → nat_lt (made order k) (length (turn p k)) ≡ b → cond b (record { sequence = k; at = made order k } ∷ left_from p order (suc k) n) (left_from p order (suc k) n) ≡ []
          → (left_from p order (suc k) n ≡ [] → suc k ≤ s → s < suc k + n → length (turn p s) ≤ made order s) → length (turn p s) ≤ made order s
      by true t e r = absurd cc
      by false t e r = elim (cases_eq k s) [
        | inl q ↦ subst (λ n. length (turn p n) ≤ made order n) q (ltb-false (made order k) (length (turn p k)) t)
        | inr q ↦ r e (omega arith) (omega arith)
      ]

  pub all_made : (k n : ℕ) → ((s : ℕ) → s < k + n → length (turn p s) ≤ made order s) → left_from p order k n ≡ []
  all_made k zero h = refl
  all_made k (suc n) h = rw (le-ltb (made order k) (length (turn p k)) (h k (omega arith))) (all_made (suc k) n (λ s l. h s (omega arith)))
