-- Numbers written by digits.
use Rattle.std.proofs.Common.{
  ◌≡◌,
  ℕ,
  suc,
  ◌+◌,
  ◌*◌,
  ◌-◌,
  ◌≤◌,
  ◌<◌,
  min,
  List,
  [],
  ◌∷◌,
  Option,
  Some,
  None,
  Bool,
  true,
  false,
  ◌&&◌,
  if◌then◌else◌,
  refl,
  arith,
  get_or,
  drop,
  length,
  ap,
  ◌∙◌,
  sym,
  drop-cons,
}
use Rattle.std.specs.List.{list_all}
use Rattle.syn_base.specs.Name.{is_digit}
use Rattle.syn_base.specs.Integer.{first_other, number_after, too_large}

both : (d : Bool) (at : ℕ) (more : Option ℕ) (ds : Bool) → (more ≡ None → ds ≡ true) → (if d then more else Some at) ≡ None → (d && ds) ≡ true
both true at more ds rest h = rest h
both false at more ds rest h = cc

-- where no byte is another one, all are digits
pub all_digits : (from : ℕ) (bs : List ℕ) → first_other from bs ≡ None → list_all is_digit bs ≡ true
all_digits from [] h = refl
all_digits from (b ∷ bs) h = both (is_digit b) from (first_other (suc from) bs) (list_all is_digit bs) (all_digits (suc from) bs) h

-- what stands after a number makes it no smaller
pub number_grows : (n : ℕ) (bs : List ℕ) → n ≤ number_after n bs
number_grows n [] = omega arith
number_grows n (b ∷ bs) = omega (arith, number_grows (10 * n + (b - 48)) bs)

-- a number that is too large stays so
pub capped : (n : ℕ) (bs : List ℕ) → min (number_after (min n too_large) bs) too_large ≡ min (number_after n bs) too_large
capped n bs = let small = number_grows n bs in let large = number_grows (min n too_large) bs in grind arith

-- one more digit of these is read
pub reads_on : (n i t : ℕ) (bs : List ℕ) → i < length bs → t ≡ min (10 * n + (get_or bs i 0 - 48)) too_large
    → min (number_after t (drop (suc i) bs)) too_large ≡ min (number_after n (drop i bs)) too_large
reads_on n i t bs h is =
    ap (λ m. min (number_after m (drop (suc i) bs)) too_large) is ∙ capped (10 * n + (get_or bs i 0 - 48)) (drop (suc i) bs) ∙ ap (λ ds. min (number_after n ds) too_large) (sym (drop-cons bs i 0 h))

pub still_digits : (i : ℕ) (bs : List ℕ) → i < length bs → list_all is_digit (drop i bs) ≡ true → list_all is_digit (drop (suc i) bs) ≡ true
still_digits i bs h all = last (is_digit (get_or bs i 0)) (list_all is_digit (drop (suc i) bs)) (ap (list_all is_digit) (sym (drop-cons bs i 0 h)) ∙ all)
  where
    last : (d ds : Bool) → (d && ds) ≡ true → ds ≡ true
    last true ds p = p
    last false ds p = cc
