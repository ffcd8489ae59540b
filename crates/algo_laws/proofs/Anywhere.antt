-- Tests of some element of a list.
use Rattle.std.proofs.Common.{◌≡◌, ℕ, Bool, true, false, ◌&&◌, ◌||◌, List, [], ◌∷◌, ◌++◌, refl, sym, subst}
use Rattle.std.specs.Prelude.{◌==◌}
use Rattle.std.specs.List.{list_any}
use Rattle.std.proofs.lemmas.Bool.{eqb-true}

pub neither : (a b : Bool) → a ≡ false → b ≡ false → (a || b) ≡ false
neither true b h k = cc
neither false b h k = k

pub not_both : (a b : Bool) → a ≡ false → (a && b) ≡ false
not_both true b h = cc
not_both false b h = refl

pub nor_second : (a b : Bool) → b ≡ false → (a && b) ≡ false
nor_second true b h = h
nor_second false b h = refl

pub or_left : (a b : Bool) → a ≡ true → (a || b) ≡ true
or_left true b h = refl
or_left false b h = cc

pub or_right : (a b : Bool) → b ≡ true → (a || b) ≡ true
or_right true b h = refl
or_right false b h = h

pub any_right : {A : Type 0} (f : A → Bool) (xs ys : List A) → list_any f ys ≡ true → list_any f (xs ++ ys) ≡ true
any_right f [] ys h = h
any_right f (x ∷ xs) ys h = or_right (f x) (list_any f (xs ++ ys)) (any_right f xs ys h)

pub any_left : {A : Type 0} (f : A → Bool) (xs ys : List A) → list_any f xs ≡ true → list_any f (xs ++ ys) ≡ true
any_left f [] ys h = cc
any_left f (x ∷ xs) ys h = by (f x) h (λ k. any_left f xs ys k)
  where
    by : (b : Bool) → (b || list_any f xs) ≡ true → (list_any f xs ≡ true → list_any f (xs ++ ys) ≡ true) → (b || list_any f (xs ++ ys)) ≡ true
    by true k rest = refl
    by false k rest = rest k

abbrev pub is_at : ℕ → ℕ → Bool
is_at q c = c == q

-- a test that holds of a number holds of some number of a list that has it
pub any_at : (q : ℕ) (f : ℕ → Bool) (xs : List ℕ) → f q ≡ true → list_any (is_at q) xs ≡ true → list_any f xs ≡ true
any_at q f [] h k = cc
any_at q f (x ∷ xs) h k = by (x == q) refl k (λ j. any_at q f xs h j)
  where
    by : (b : Bool) → (x == q) ≡ b → (b || list_any (is_at q) xs) ≡ true → (list_any (is_at q) xs ≡ true → list_any f xs ≡ true) → (f x || list_any f xs) ≡ true
    by true e j rest = let same : q ≡ x = sym (eqb-true x q e) in or_left (f x) (list_any f xs) (subst (λ (y : ℕ). f y ≡ true) same h)
    by false e j rest = or_right (f x) (list_any f xs) (rest j)
