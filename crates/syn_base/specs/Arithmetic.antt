-- Arithmetic on 64-bit signed numbers, total by this project's profile.
use Rattle.std.specs.Prelude.{
  ◌^◌,
  ℤ,
  pos,
  ◌+ℤ◌,
  ◌-ℤ◌,
  ◌*ℤ◌,
  neg_ℤ,
  Bool,
  true,
  false,
  not,
  if◌then◌else◌,
  int_div,
  int_rem,
  int_lt,
  int_le,
  unsigned_abs,
}
use Rattle.std.specs.Int.{w64, int_max, int_min, cast_signed, int_rem_euclid}
use Rattle.std.specs.Ordering.{int_eq}
use Rattle.syn_base.specs.declared.arithmetic.Op.{Op}
use Rattle.syn_base.specs.declared.arithmetic.Op.TheVariants.{
  Add,
  Sub,
  Mul,
  Div,
  Rem,
  Eq,
  Ne,
  Lt,
  Le,
  Gt,
  Ge,
  Min,
  Max,
  Neg,
}

-- A whole number brought back modulo 2^64, in two's complement.
abbrev pub wrapped : ℤ → ℤ
wrapped z = cast_signed w64 (unsigned_abs (int_rem_euclid z (pos (2 ^ 64))))

-- The number that stands for a truth value.
abbrev pub truth_value : Bool → ℤ
truth_value true = pos 1
truth_value false = pos 0

-- The quotient, cut towards zero; by 0 it is 0.
abbrev pub quotient_of : ℤ → ℤ → ℤ
quotient_of a b = if int_eq b (pos 0) then pos 0 else wrapped (int_div a b)

-- The remainder, with the dividend's sign; by 0 it is the dividend.
abbrev pub remainder_of : ℤ → ℤ → ℤ
remainder_of a b = if int_eq b (pos 0) then a else int_rem a b

-- The value of an operator.
abbrev pub applied : Op → ℤ → ℤ → ℤ
applied Add a b = wrapped (a +ℤ b)
applied Sub a b = wrapped (a -ℤ b)
applied Mul a b = wrapped (a *ℤ b)
applied Div a b = quotient_of a b
applied Rem a b = remainder_of a b
applied Eq a b = truth_value (int_eq a b)
applied Ne a b = truth_value (not (int_eq a b))
applied Lt a b = truth_value (int_lt a b)
applied Le a b = truth_value (int_le a b)
applied Gt a b = truth_value (int_lt b a)
applied Ge a b = truth_value (int_le b a)
applied Min a b = int_min a b
applied Max a b = int_max a b
applied Neg a b = wrapped (neg_ℤ a)
