-- Which nodes stand in an order.
use Rattle.std.proofs.Common.{◌≡◌, ◌≢◌, ℕ, ◌⊎◌, inl, inr, List, [], ◌∷◌, ◌++◌, Bool, true, false, ◌||◌, ◌==◌, refl, sym, ap, ◌∙◌, arith, eq-eqb}
use Rattle.std.proofs.lemmas.Bool.{eqb-true, cases_lt}
use Rattle.hierarchy.specs.Order.{is_among}

pub eqb_cases : (q r : ℕ) → (q ≡ r) ⊎ (q ≢ r)
eqb_cases q r = elim (cases_lt q r) [
  | inl lower ↦ inr (λ e. omega arith)
  | inr above ↦ elim (cases_lt r q) [ inl higher ↦ inr (λ e. omega arith) | inr not_above ↦ inl (omega arith) ]
]

or-right : (a b : Bool) → b ≡ true → (a || b) ≡ true
or-right true b h = refl
or-right false b h = h

or_test : (a b : Bool) → (a || b) ≡ true → (a ≡ true) ⊎ (b ≡ true)
or_test true b h = inl refl
or_test false b h = inr h

pub among_end : (xs : List ℕ) (r : ℕ) → is_among (xs ++ r ∷ []) r ≡ true
among_end [] r = rw (eq-eqb r r refl) refl
among_end (x ∷ xs) r = or-right (x == r) (is_among (xs ++ r ∷ []) r) (among_end xs r)

not_equal : (b : Bool) (x y : ℕ) → (x == y) ≡ b → x ≢ y → b ≡ false
not_equal true x y e h = absurd (h (eqb-true x y e))
not_equal false x y e h = refl

pub among_other : (xs : List ℕ) (r q : ℕ) → q ≢ r → is_among (xs ++ r ∷ []) q ≡ is_among xs q
among_other [] r q h = let e : (r == q) ≡ false = not_equal (r == q) r q refl (λ s. h (sym s)) in rw e refl
among_other (x ∷ xs) r q h = ap (λ b. (x == q) || b) (among_other xs r q h)

pub among_still : (xs : List ℕ) (r q : ℕ) → is_among xs q ≡ true → is_among (xs ++ r ∷ []) q ≡ true
among_still xs r q h = elim (eqb_cases q r) [
  | inl same ↦ rw same (among_end xs r)
  | inr other ↦ among_other xs r q other ∙ h
]
