-- Numbers of one remainder that are less than a divisor apart are one.
use Rattle.std.proofs.Common.{◌≡◌, ℕ, suc, ◌+◌, ◌*◌, ◌/◌, ◌%◌, ◌<◌, ◌≤◌, ◌⊎◌, inl, inr, arith}
use Rattle.std.proofs.lemmas.Bool.{cases_lt}
use Rattle.std.proofs.lemmas.Nat.{div-add-mod'}
use Rattle.std.proofs.Math.Nat.{mul-le-mul_right}
use native.Mathlib.Nat.{suc-mul}

pub one_turn : (a b d : ℕ) → a ≤ b → b < a + d → a % d ≡ b % d → b ≡ a
one_turn a b d h l e = by (cases_lt (a / d) (b / d))
  where
    by : (a / d < b / d) ⊎ (b / d ≤ a / d) → b ≡ a
    by (inl g) = let x = div-add-mod' a d in let y = div-add-mod' b d in let m : suc (a / d) * d ≤ b / d * d = mul-le-mul_right d g in let n = suc-mul (a / d) d in absurd (omega arith)
    by (inr g) = let x = div-add-mod' a d in let y = div-add-mod' b d in let m : b / d * d ≤ a / d * d = mul-le-mul_right d g in omega arith
