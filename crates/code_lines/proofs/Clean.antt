-- A line is gone through once for its comment and for bytes that may not stand in it.
use Rattle.std.proofs.Common.{◌≡◌, ℕ, zero, suc, ◌+◌, ◌<◌, Bool, not, true, false, cond, ◌||◌, List, [], ◌∷◌, length, take, get_or, refl, ap, ◌∙◌, arith}
use Rattle.std.specs.List.{list_any, position_or_len}

goes_on : (b : Bool) (p n : ℕ) → cond (not b) (1 + p) 0 ≡ suc n → (b ≡ false) × (p ≡ n)
goes_on true p n e = absurd (omega (arith, e))
goes_on false p n e = (refl, omega (arith, e))

stops : (b : Bool) (p : ℕ) → cond (not b) (1 + p) 0 ≡ 0 → b ≡ true
stops true p e = refl
stops false p e = absurd (omega (arith, e))

neither : (a b : Bool) → (a || b) ≡ false → (a ≡ false) × (b ≡ false)
neither true b e = cc
neither false b e = (refl, e)

second : (a b : Bool) → (a || b) ≡ true → a ≡ false → b ≡ true
second true b e not_a = cc
second false b e _ = e

module _ {X : Type 0} (mark wrong : X → Bool) where
  abbrev stop : X → Bool
  stop x = mark x || wrong x

  -- the first stop is a mark: it is the first one, and nothing before it is wrong
  pub mark_first : (xs : List X) (n : ℕ) (e : X) → position_or_len stop xs ≡ n → n < length xs → mark (get_or xs n e) ≡ true → (position_or_len mark xs ≡ n) × (list_any wrong (take n xs) ≡ false)
  mark_first [] n e first inside is = absurd (omega (arith, inside))
  mark_first (x ∷ xs) zero e first inside is = (ap (λ (b : Bool). cond (not b) (1 + position_or_len mark xs) 0) is, refl)
  mark_first (x ∷ xs) (suc n) e first inside is =
      let on = goes_on (mark x || wrong x) (position_or_len stop xs) n first in
      let none = neither (mark x) (wrong x) on.0 in
      let later = mark_first xs n e on.1 (omega (arith, inside)) is in (
        ap (λ (b : Bool). cond (not b) (1 + position_or_len mark xs) 0) none.0 ∙ omega (arith, later.0),
        ap (λ (b : Bool). b || list_any wrong (take n xs)) none.1 ∙ later.1,
      )

  -- the first stop is no mark: something before the first mark is wrong
  pub wrong_first : (xs : List X) (n : ℕ) (e : X) → position_or_len stop xs ≡ n → n < length xs → mark (get_or xs n e) ≡ false → list_any wrong (take (position_or_len mark xs) xs) ≡ true
  wrong_first [] n e first inside is = absurd (omega (arith, inside))
  wrong_first (x ∷ xs) zero e first inside is =
      let here = second (mark x) (wrong x) (stops (mark x || wrong x) (position_or_len stop xs) first) is in
      ap (λ (b : Bool). list_any wrong (take (cond (not b) (1 + position_or_len mark xs) 0) (x ∷ xs))) is
      ∙ ap (λ (k : ℕ). list_any wrong (take k (x ∷ xs))) (let e : 1 + position_or_len mark xs ≡ suc (position_or_len mark xs) = omega arith in e)
      ∙ ap (λ (b : Bool). b || list_any wrong (take (position_or_len mark xs) xs)) here
  wrong_first (x ∷ xs) (suc n) e first inside is =
      let on = goes_on (mark x || wrong x) (position_or_len stop xs) n first in
      let none = neither (mark x) (wrong x) on.0 in
      ap (λ (b : Bool). list_any wrong (take (cond (not b) (1 + position_or_len mark xs) 0) (x ∷ xs))) none.0
      ∙ ap (λ (k : ℕ). list_any wrong (take k (x ∷ xs))) (let e : 1 + position_or_len mark xs ≡ suc (position_or_len mark xs) = omega arith in e)
      ∙ ap (λ (b : Bool). b || list_any wrong (take (position_or_len mark xs) xs)) none.1
      ∙ wrong_first xs n e on.1 (omega (arith, inside)) is

  -- no stop: no mark, and nothing is wrong
  pub no_stop : (xs : List X) → list_any stop xs ≡ false → (position_or_len mark xs ≡ length xs) × (list_any wrong xs ≡ false)
  no_stop [] none = (refl, refl)
  no_stop (x ∷ xs) none =
      let two = neither (mark x || wrong x) (list_any stop xs) none in
      let here = neither (mark x) (wrong x) two.0 in
      let later = no_stop xs two.1 in (
        ap (λ (b : Bool). cond (not b) (1 + position_or_len mark xs) 0) here.0 ∙ omega (arith, later.0),
        ap (λ (b : Bool). b || list_any wrong xs) here.1 ∙ later.1,
      )
