-- A text is cut at the first byte that passes a test.
use Rattle.std.proofs.Common.{◌≡◌, ℕ, suc, ◌+◌, ◌-◌, ◌<◌, Bool, not, true, false, cond, ◌||◌, List, [], ◌∷◌, length, take, drop, None, Some, position, nat_lt, refl, sym, ◌∙◌, arith, length-drop}
use Rattle.std.specs.List.{list_any, position_or_len}
use Rattle.std.proofs.lemmas.Bool.{lt-ltb}
use Rattle.std.proofs.lemmas.Bool.Decides.{nat_tests}
use Rattle.std.proofs.lemmas.List.{take_all}
use Rattle.text_lines.proofs.Places.{found_at}
use Rattle.code_lines.specs.Views.{IsCut}

one_more : (b : Bool) (k n : ℕ) (h : Bool) → nat_lt k n ≡ h → nat_lt (cond (not b) (1 + k) 0) (suc n) ≡ (b || h)
one_more true k n h e = lt-ltb 0 (suc n) (omega arith)
one_more false k n h e = let same : nat_lt (1 + k) (suc n) ≡ nat_lt k n = grind (arith, nat_tests) in same ∙ e

-- an element passes exactly where the first that does stands within the list
pub stands : {X : Type 0} (p : X → Bool) (xs : List X) → nat_lt (position_or_len p xs) (length xs) ≡ list_any p xs
stands p [] = refl
stands p (x ∷ xs) = one_more (p x) (position_or_len p xs) (length xs) (list_any p xs) (stands p xs)

any_true : (b : Bool) (m n : ℕ) → cond b (Some m) None ≡ Some n → b ≡ true
any_true true m n h = refl
any_true false m n h = cc

any_false : (b : Bool) (m : ℕ) → cond b (Some m) None ≡ None → b ≡ false
any_false true m h = cc
any_false false m h = refl

pub some_passes : {X : Type 0} (p : X → Bool) (xs : List X) (n : ℕ) → position p xs ≡ Some n → list_any p xs ≡ true
some_passes p xs n h = sym (stands p xs) ∙ any_true (nat_lt (position_or_len p xs) (length xs)) (position_or_len p xs) n h

pub none_passes : {X : Type 0} (p : X → Bool) (xs : List X) → position p xs ≡ None → list_any p xs ≡ false
none_passes p xs h = sym (stands p xs) ∙ any_false (nat_lt (position_or_len p xs) (length xs)) (position_or_len p xs) h

-- the parts before and after the place of the first byte that passes
pub cut : (p : ℕ → Bool) (text : List ℕ) (n : ℕ) → Some n ≡ position p text → n < length text → IsCut p text (take n text) (take (length text - (n + 1)) (drop (n + 1) text))
cut p text n found within =
    let is : position_or_len p text ≡ n = found_at p text n (sym found) in
    record {
      some = some_passes p text n (sym found);
      first_is = rw is refl;
      rest_is = rw is (take_all (length text - (n + 1)) (drop (n + 1) text) (omega (arith, length-drop (n + 1) text)));
    }
