use Rattle.std.proofs.Common.{◌≡◌, ℤ, ◌*ℤ◌, FitsSigned, w64}
use Rattle.std.specs.Int.{int_wrap, int_wrapping_mul}
use Rattle.std.proofs.lemmas.Int.{wrapping_mul_is}
use Rattle.syn_base.specs.Arithmetic.{wrapped}
use Rattle.syn_base.proofs.arithmetic.apply.Goals as goal

-- a product's low bits are the whole product, brought back
product_is : (a b : ℤ) → FitsSigned w64 a → FitsSigned w64 b → int_wrapping_mul w64 a b ≡ wrapped (a *ℤ b)
unfolding int_wrap
product_is a b f g = wrapping_mul_is w64 a b f g

pub returns-in-Mul : goal.returns-in-Mul
returns-in-Mul c = rw c.in-Mul.is (product_is c.args.a c.args.b c.ranges.a c.ranges.b)
