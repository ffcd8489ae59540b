-- The first element that passes a test.
use Rattle.std.proofs.Common.{◌≡◌, ℕ, suc, ◌+◌, Bool, not, true, false, cond, ◌||◌, ◌&&◌, List, [], ◌∷◌, length, Option, Some, None, position, nat_lt, refl, sym, ap, ◌∙◌, arith}
use Rattle.std.specs.Prelude.{is_some}
use Rattle.std.specs.List.{list_any, list_all, position_or_len}
use Rattle.std.proofs.lemmas.Grind.{common_steps}

below_more : (m n : ℕ) → nat_lt (1 + m) (suc n) ≡ nat_lt m n
below_more m n = grind (arith, common_steps)

at_front : (n : ℕ) → nat_lt 0 (suc n) ≡ true
at_front n = grind (arith, common_steps)

-- one place further
abbrev pub further : Option ℕ → Option ℕ
further None = None
further (Some n) = Some (suc n)

-- the first, or the first of the others
abbrev pub first_or : Bool → Option ℕ → Option ℕ
first_or true later = Some 0
first_or false later = further later

one_further : (b : Bool) (n : ℕ) → cond b (Some (1 + n)) None ≡ further (cond b (Some n) None)
one_further true n = ap (λ (k : ℕ). Some k) (let e : 1 + n ≡ suc n = omega arith in e)
one_further false n = refl

step : (b : Bool) (n len : ℕ) → cond (nat_lt (cond (not b) (1 + n) 0) (suc len)) (Some (cond (not b) (1 + n) 0)) None ≡ first_or b (cond (nat_lt n len) (Some n) None)
step true n len = ap (λ (b : Bool). cond b (Some 0) None) (at_front len)
step false n len = ap (λ (b : Bool). cond b (Some (1 + n)) None) (below_more n len) ∙ one_further (nat_lt n len) n

pub position_cons : {X : Type 0} (p : X → Bool) (x : X) (xs : List X) → position p (x ∷ xs) ≡ first_or (p x) (position p xs)
position_cons p x xs = step (p x) (position_or_len p xs) (length xs)

some_first : (b : Bool) (later : Option ℕ) → is_some (first_or b later) ≡ (b || is_some later)
some_first true later = refl
some_first false None = refl
some_first false (Some n) = refl

-- there is a place exactly where some element passes
pub some_place : {X : Type 0} (p : X → Bool) (xs : List X) → is_some (position p xs) ≡ list_any p xs
some_place p [] = refl
some_place p (x ∷ xs) = ap is_some (position_cons p x xs) ∙ some_first (p x) (position p xs) ∙ ap (λ (b : Bool). p x || b) (some_place p xs)

all_but : (b c : Bool) → (not b || c) ≡ false → (b ≡ true) × (c ≡ false)
all_but true c h = (refl, h)
all_but false c h = cc

none_fail : {X : Type 0} (p : X → Bool) (xs : List X) → list_any (λ x. not (p x)) xs ≡ false → list_all p xs ≡ true
none_fail p [] h = refl
none_fail p (x ∷ xs) h =
    let both = all_but (p x) (list_any (λ y. not (p y)) xs) h in
    ap (λ (b : Bool). b && list_all p xs) both.0 ∙ none_fail p xs both.1

-- no element fails
pub all_pass : {X : Type 0} (p : X → Bool) (xs : List X) → position (λ x. not (p x)) xs ≡ None → list_all p xs ≡ true
all_pass p xs h = none_fail p xs (sym (some_place (λ x. not (p x)) xs) ∙ ap is_some h)
