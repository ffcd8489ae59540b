-- The places of dates.
use Rattle.std.proofs.Common.{◌≡◌, ℕ, zero, suc, ◌+◌, ◌*◌, ◌/◌, ◌<◌, ◌≤◌, sym, subst, arith}
use Rattle.std.specs.Prelude.{max, min}
use Rattle.std.proofs.Math.Nat.{div-mul-le_self, add-mul, mul-suc}
use Rattle.std.proofs.lemmas.Nat.{le-div, mul-le}
use Rattle.svg_text.specs.declared.scale.Scale.{Scale}
use Rattle.svg_text.specs.Scale.{place}
use Rattle.chart_picture.specs.Truth.{WhatLastsIsSeen}

div_monotone : (m n k : ℕ) → 0 < k → m ≤ n → m / k ≤ n / k
div_monotone m n k p h = le-div (m / k) n k p (let e = div-mul-le_self m k in omega arith)

-- a later date has no earlier place
pub place_monotone : (scale : Scale) (s e : ℕ) → s ≤ e → place scale s ≤ place scale e
place_monotone scale s e h =
    div_monotone (scale.width * min s scale.length) (scale.width * min e scale.length) (max 1 scale.length) (omega arith)
    (mul-le scale.width (min s scale.length) scale.width (min e scale.length) (omega arith) (omega arith))

-- one tick is one unit at least, where there are as many units as ticks
strict : (w l s e : ℕ) → 0 < l → l ≤ w → s < e → w * s / l < w * e / l
strict w l s e some wide lasts =
    let q = w * s / l in
    let low : q * l ≤ w * s = div-mul-le_self (w * s) l in
    let next : w * suc s ≤ w * e = mul-le w (suc s) w e (omega arith) (omega arith) in
    let more : w * suc s ≡ w * s + w = mul-suc w s in
    let one : (q + 1) * l ≡ q * l + 1 * l = add-mul q 1 l in
    let same : 1 * l ≡ l = omega arith in
    let up : q + 1 ≤ w * e / l = le-div (q + 1) (w * e) l some (omega (arith, low, next, more, one, same)) in
    omega (arith, up)

pub what_lasts_is_seen : WhatLastsIsSeen
what_lasts_is_seen scale start end wide lasts within =
    let s : min start scale.length ≡ start = omega arith in
    let e : min end scale.length ≡ end = omega arith in
    let m : max 1 scale.length ≡ scale.length = omega arith in
    let F : ℕ → ℕ → ℕ → Type 0 = λ x y z. scale.width * x / z < scale.width * y / z in
    subst (λ (z : ℕ). F (min start scale.length) (min end scale.length) z) (sym m)
    (subst (λ (y : ℕ). F (min start scale.length) y scale.length) (sym e)
    (subst (λ (x : ℕ). F x end scale.length) (sym s)
    (strict scale.width scale.length start end (omega arith) wide lasts)))
