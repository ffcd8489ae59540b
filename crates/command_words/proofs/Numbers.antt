-- Digits read one by one, up to a bound.
use Rattle.std.proofs.Common.{
  ◌≡◌,
  ◌∙◌,
  ◌≤◌,
  ◌<◌,
  ◌+◌,
  ◌-◌,
  ◌*◌,
  ℕ,
  suc,
  refl,
  ap,
  [],
  ◌∷◌,
  Option,
  Some,
  None,
  Bool,
  true,
  false,
  ◌&&◌,
  nat_le,
  arith,
  rules,
  if◌then◌else◌,
  drop,
  length,
  get_or,
  drop-cons,
}
use Rattle.std.specs.List.{list_all}
use Rattle.syn_base.specs.Name.{is_digit}
use Rattle.syn_base.specs.Integer.{number_after}
use Rattle.syn_base.specs.Bytes.{Bytes}
use Rattle.command_words.specs.Command.{number_up_to}

-- the number after n that these bytes write, where it is from 1 to this one
abbrev pub read_on : ℕ → ℕ → Bytes → Option ℕ
read_on most n bs = if list_all is_digit bs && nat_le 1 (number_after n bs) && nat_le (number_after n bs) most then Some (number_after n bs) else None

some_more : (n : ℕ) → nat_le 1 (suc n) ≡ true
some_more n = search (rules, arith)

pub from_none : (most : ℕ) (bs : Bytes) → read_on most 0 bs ≡ number_up_to most bs
from_none most [] = refl
from_none most (b ∷ bs) = rw (some_more (length bs)) refl

pub digit_read : (most n b : ℕ) (bs : Bytes) → is_digit b ≡ true → read_on most n (b ∷ bs) ≡ read_on most (10 * n + (b - 48)) bs
digit_read most n b bs e = rw e refl

pub no_digit : (most n b : ℕ) (bs : Bytes) → is_digit b ≡ false → read_on most n (b ∷ bs) ≡ None
no_digit most n b bs e = rw e refl

grows : (n : ℕ) (bs : Bytes) → n ≤ number_after n bs
grows n [] = omega arith
grows n (b ∷ bs) = let e = grows (10 * n + (b - 48)) bs in omega arith

no_number : (a : Bool) (n most : ℕ) → most < n → (if a && nat_le 1 n && nat_le n most then Some n else None) ≡ None
no_number true n most l = search (rules, arith)
no_number false n most l = refl

pub too_large : (most n : ℕ) (bs : Bytes) → most < n → read_on most n bs ≡ None
too_large most n bs l = no_number (list_all is_digit bs) (number_after n bs) most (let e = grows n bs in omega arith)

pub too_large_at : (most n i : ℕ) (bs : Bytes) → i < length bs → is_digit (get_or bs i 0) ≡ true → most < 10 * n + (get_or bs i 0 - 48) → read_on most n (drop i bs) ≡ None
too_large_at most n i bs h d l =
    ap (read_on most n) (drop-cons bs i 0 h) ∙ digit_read most n (get_or bs i 0) (drop (suc i) bs) d ∙ too_large most (10 * n + (get_or bs i 0 - 48)) (drop (suc i) bs) l
