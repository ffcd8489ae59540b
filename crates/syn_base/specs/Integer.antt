-- Integers as texts.
use Rattle.std.specs.Prelude.{
  ℕ,
  suc,
  ◌+◌,
  ◌*◌,
  ◌-◌,
  ◌^◌,
  ◌==◌,
  ℤ,
  pos,
  neg_ℤ,
  Bool,
  true,
  false,
  nat_le,
  if◌then◌else◌,
  List,
  [],
  ◌∷◌,
  Option,
  Some,
  None,
  Result,
  Ok,
  Err,
}
use Rattle.syn_base.specs.Name.{is_digit}
use Rattle.syn_base.specs.declared.integer.NumFault.{NumFault}
use Rattle.syn_base.specs.declared.integer.NumFault.TheVariants.{Empty, NotDigit, TooLarge}

-- The place of the first byte that is no digit, where these bytes begin at this place.
abbrev pub first_other : ℕ → List ℕ → Option ℕ
first_other at [] = None
first_other at (b ∷ bs) = if is_digit b then first_other (suc at) bs else Some at

-- The number that digits write after those of n.
abbrev pub number_after : ℕ → List ℕ → ℕ
number_after n [] = n
number_after n (b ∷ bs) = number_after (10 * n + (b - 48)) bs

-- The number that digits write.
abbrev pub number_of : List ℕ → ℕ
number_of bs = number_after 0 bs

-- The number with this sign and magnitude, where 64 bits hold it.
abbrev pub with_sign : Bool → ℕ → Result ℤ NumFault
with_sign true n = if nat_le n (2 ^ 63) then Ok (neg_ℤ (pos n)) else Err TooLarge
with_sign false n = if nat_le n (2 ^ 63 - 1) then Ok (pos n) else Err TooLarge

-- The number of one or more digits with this sign, where 64 bits hold it.
abbrev pub from_digits : Bool → List ℕ → Result ℤ NumFault
from_digits negative [] = Err Empty
from_digits negative (b ∷ bs) = with_sign negative (number_of (b ∷ bs))

-- What reading a number gives, if the first byte that is no digit is at this place: the refusal of
-- that byte, which comes before all other faults. If there is no such byte, it is the given result.
abbrev pub unless_other : Option ℕ → Result ℤ NumFault → Result ℤ NumFault
unless_other (Some place) number = Err (NotDigit place)
unless_other None number = number

-- The number of a sign and digits, where the digits begin at this place.
abbrev pub signed : Bool → ℕ → List ℕ → Result ℤ NumFault
signed negative from digits = unless_other (first_other from digits) (from_digits negative digits)

-- The integer of a text with these bytes, where it is told whether the first is a minus.
abbrev pub behind_minus : Bool → ℕ → List ℕ → Result ℤ NumFault
behind_minus true b bs = signed true 1 bs
behind_minus false b bs = signed false 0 (b ∷ bs)

-- The integer that a text is, or why it is none.
abbrev pub integer_of : List ℕ → Result ℤ NumFault
integer_of [] = signed false 0 []
integer_of (b ∷ bs) = behind_minus (b == 45) b bs

-- A magnitude that no 64-bit signed number has.
abbrev pub too_large : ℕ
too_large = 9223372036854775809
