-- Which operations stand in an order.
use Rattle.std.proofs.Common.{◌≡◌, ◌≢◌, ℕ, ◌⊎◌, inl, inr, List, [], ◌∷◌, ◌++◌, Bool, true, false, ◌&&◌, ◌||◌, ◌==◌, refl, sym, ap, ◌∙◌, arith, eq-eqb}
use Rattle.std.specs.List.{list_all}
use Rattle.std.proofs.lemmas.Bool.{and_parts, and_from, cases_lt, eqb-true}
use Rattle.sync_meaning.specs.Order.{is_among}

pub same_or_not : (q r : ℕ) → (q ≡ r) ⊎ (q ≢ r)
same_or_not q r = elim (cases_lt q r) [
  | inl lower ↦ inr (λ e. omega arith)
  | inr above ↦ elim (cases_lt r q) [ inl higher ↦ inr (λ e. omega arith) | inr not_above ↦ inl (omega arith) ]
]

or_right : (a b : Bool) → b ≡ true → (a || b) ≡ true
or_right true b h = refl
or_right false b h = h

or_left : (a b : Bool) → a ≡ true → (a || b) ≡ true
or_left true b h = refl
or_left false b h = absurd (cc)

-- the last one stands in the order
pub among_last : (us : List ℕ) (v : ℕ) → is_among (us ++ v ∷ []) v ≡ true
among_last [] v = or_left (v == v) false (eq-eqb v v refl)
among_last (u ∷ us) v = or_right (u == v) (is_among (us ++ v ∷ []) v) (among_last us v)

-- those before it still do
pub among_still : (us : List ℕ) (v w : ℕ) → is_among us w ≡ true → is_among (us ++ v ∷ []) w ≡ true
among_still [] v w h = absurd (cc)
among_still (u ∷ us) v w h = by (u == w) (among_still us v w) h
  where
    by : (b : Bool) → (is_among us w ≡ true → is_among (us ++ v ∷ []) w ≡ true) → (b || is_among us w) ≡ true → (b || is_among (us ++ v ∷ []) w) ≡ true
    by true rest e = refl
    by false rest e = rest e

-- one other than the last stood there before
pub among_other : (us : List ℕ) (v w : ℕ) → w ≢ v → is_among (us ++ v ∷ []) w ≡ true → is_among us w ≡ true
among_other [] v w other h = absurd (other (sym (eqb-true v w (by (v == w) h))))
  where
    by : (b : Bool) → (b || false) ≡ true → b ≡ true
    by true e = refl
    by false e = e
among_other (u ∷ us) v w other h = by (u == w) (among_other us v w other) h
  where
    by : (b : Bool) → (is_among (us ++ v ∷ []) w ≡ true → is_among us w ≡ true) → (b || is_among (us ++ v ∷ []) w) ≡ true → (b || is_among us w) ≡ true
    by true rest e = refl
    by false rest e = rest e

-- what passes one test passes another
pub all_imply : (f g : ℕ → Bool) → ((u : ℕ) → f u ≡ true → g u ≡ true) → (us : List ℕ) → list_all f us ≡ true → list_all g us ≡ true
all_imply f g h [] e = refl
all_imply f g h (u ∷ us) e = let a = and_parts (f u) (list_all f us) e in and_from (g u) (list_all g us) (h u a.0) (all_imply f g h us a.1)
