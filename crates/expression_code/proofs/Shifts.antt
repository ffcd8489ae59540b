-- Elements that stand a number of places on.
use Rattle.std.proofs.Common.{◌≡◌, ℕ, ◌+◌, ◌-◌, ◌-ℤ◌, ◌<◌, ◌≤◌, ◌^◌, pos, ◌+ℤ◌, sym, ap, ◌∙◌, subst, arith, w64, FitsSigned}
use Rattle.std.specs.Int.{int_wrap}
use Rattle.std.proofs.lemmas.Int.{ints, int_wrap_fits}
use Rattle.syn_base.specs.declared.arithmetic.Op.TheVariants.{Add, Sub}
use Rattle.syn_base.specs.Arithmetic.{wrapped}
use Rattle.body_lang.specs.Expr.{Expr, apply, index}
use Rattle.expression_code.specs.Compiled.{IsShift, Numbers, NumbersBack}

sum_is : (shift j : ℕ) → shift + j < 2 ^ 32 → wrapped (pos j +ℤ pos shift) ≡ pos (shift + j)
unfolding int_wrap
sum_is shift j h =
    let e : pos j +ℤ pos shift ≡ pos (shift + j) = omega (arith, ints) in
    ap wrapped e ∙ int_wrap_fits w64 (pos (shift + j)) (let f : FitsSigned w64 (pos (shift + j)) = omega (arith, ints) in f)

pub numbers_shift : (count len shift : ℕ) (a b : Expr) → IsShift shift a b → shift + len ≤ count → count < 2 ^ 32 → Numbers count len (apply Add a b) shift
numbers_shift count len shift a b is room small =
    subst (λ x. Numbers count len (apply Add x b) shift) (sym is.0)
    (subst (λ x. Numbers count len (apply Add index x) shift) (sym is.1)
    (record { room = room; values = λ ins j h. sum_is shift j (omega arith) }))

difference_is : (from j : ℕ) → j ≤ from → from < 2 ^ 32 → wrapped (pos from -ℤ pos j) ≡ pos (from - j)
unfolding int_wrap
difference_is from j le h =
    let e : pos from -ℤ pos j ≡ pos (from - j) = omega (arith, ints) in
    ap wrapped e ∙ int_wrap_fits w64 (pos (from - j)) (let f : FitsSigned w64 (pos (from - j)) = omega (arith, ints) in f)

pub numbers_back : (count len from : ℕ) (a b : Expr) → IsShift from b a → from < count → len ≤ from + 1 → count < 2 ^ 32 → NumbersBack count len (apply Sub a b) from
numbers_back count len from a b is inside room small =
    subst (λ x. NumbersBack count len (apply Sub a x) from) (sym is.0)
    (subst (λ x. NumbersBack count len (apply Sub x index) from) (sym is.1)
    (record { inside = inside; room = room; values = λ ins j h. difference_is from j (omega arith) (omega arith) }))
