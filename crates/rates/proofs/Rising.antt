-- From cycle to cycle the rate rises: rates in lowest terms, what holds of the rate so far, and a number that falls.
use Rattle.std.proofs.Common.{◌≡◌, ℕ, ◌+◌, ◌*◌, ◌^◌, ◌<◌, ◌≤◌, ◌⊎◌, true, ◌&&◌, List, [], ◌∷◌, length, refl, sym, ap, subst, inl, inr, arith, ◌∙◌, eq-eqb}
use Rattle.std.specs.Prelude.{nat_le, ◌-◌, ◌/◌, ◌==◌}
use Rattle.std.specs.Int.{IsGcd, ◌∣◌}
use Rattle.std.proofs.lemmas.Bool.{and_parts, cases_lt, eqb-true, le-leb}
use Rattle.std.proofs.lemmas.Nat.{mul-le}
use Rattle.std.proofs.lemmas.Nat.Gcd.{IsGcd-from_zero, IsGcd-swap}
use Rattle.std.proofs.lemmas.List.Sums.{sum_by-cons}
use Rattle.std.proofs.Math.Nat.{mul-le-mul_left, one-dvd, pos_of_dvd_of_pos, div-mul_cancel, mul-dvd-mul_right, dvd_of_mul-dvd-mul_right, mul_left_comm}
use Rattle.self_timed.proofs.Reading.{any_of}
use Rattle.rates.specs.declared.table.Arc.{Arc}
use Rattle.rates.specs.declared.table.Rate.{Rate}
use Rattle.rates.specs.Rates.{begin_or, lags, length_over, same_arc}
use Rattle.rates.specs.Tables.{at, is_critical_in, is_cycle_in, is_in_row, is_way_in, row_of}
use Rattle.rates.specs.Search.{IsOver, IsSearchable}
use Rattle.rates.specs.ExactRates.{IsRateOver}
use Rattle.rates.proofs.Exact.{quotient_low, quotient_rises}
use Rattle.rates.proofs.Tested.{both}

-- a ratio in lowest terms
pub record IsLowest (a b x y : ℕ) : Type 0 where
  pub some : 0 < y
  pub lowest : IsGcd x y 1
  pub same : y * a ≡ x * b
  pub few : x ≤ a
  pub low : y ≤ b

module _ (a b g : ℕ) (h : IsGcd a b g) (later : 0 < b) where
  pub divisor_some : 0 < g
  divisor_some = pos_of_dvd_of_pos h.1 later

  first : a / g * g ≡ a
  first = div-mul_cancel g h.0

  second : b / g * g ≡ b
  second = div-mul_cancel g h.1

  least : (d : ℕ) → d ∣ a / g → d ∣ b / g → d ∣ 1
  least d p q =
      let in_a : d * g ∣ a = subst (λ (n : ℕ). d * g ∣ n) first (mul-dvd-mul_right d p g) in
      let in_b : d * g ∣ b = subst (λ (n : ℕ). d * g ∣ n) second (mul-dvd-mul_right d q g) in
      let in_g : d * g ∣ 1 * g = subst (λ (n : ℕ). d * g ∣ n) (let e : g ≡ 1 * g = omega arith in e) (h.2 (d * g) in_a in_b) in
      dvd_of_mul-dvd-mul_right {k = g} d {n = 1} divisor_some in_g

  some : 0 < b / g
  some = elim (cases_lt 0 (b / g)) [
    | inl z ↦ z
    | inr z ↦ (
        let none : b / g ≡ 0 = omega arith in
        let times = ap (λ (n : ℕ). n * g) none in
        let e = second in
        absurd (omega arith))
  ]

  pub divided : IsLowest a b (a / g) (b / g)
  divided =
      let one : 1 ≤ g = divisor_some in
      let p = first in
      let q = second in
      let x = mul-le-mul_left (a / g) one in
      let y = mul-le-mul_left (b / g) one in
      record {
        some = some;
        lowest = (one-dvd (a / g), one-dvd (b / g), least);
        same = ap (λ (n : ℕ). b / g * n) (sym first) ∙ mul_left_comm (b / g) (a / g) g ∙ ap (λ (n : ℕ). a / g * n) second;
        few = omega arith;
        low = omega arith;
      }

-- What holds of the rate so far: it is in lowest terms, and has no ticks or a critical cycle.
pub record IsSoFar (table : List (List Arc)) (long : List ℕ) (rate : Rate) (act : ℕ) (way : List Arc) : Type 0 where
  pub some : 0 < rate.reactions
  pub low : rate.reactions ≤ 2 ^ 30
  pub lowest : IsGcd rate.ticks rate.reactions 1
  pub exact : (rate.ticks ≡ 0) ⊎ (is_critical_in table (at long) rate.ticks rate.reactions act way ≡ true)

pub at_start : (table : List (List Arc)) (long : List ℕ) (act : ℕ) (way : List Arc) → IsSoFar table long (record { ticks = 0; reactions = 1 }) act way
at_start table long act way = record {
  some = omega arith;
  low = omega arith;
  lowest = IsGcd-swap 1 0 1 (IsGcd-from_zero 1 0 refl);
  exact = inl refl;
}

-- how far the rate is below the greatest, in parts of a tick that tell two rates apart
abbrev pub height : Rate → ℕ
height rate = 2 ^ 60 * 2 ^ 52 - 2 ^ 60 * rate.ticks / rate.reactions

-- Of ratios: what exceeds a rate is a higher rate.
ratio_up : (t r t' r' size depth : ℕ) → 0 < depth → 0 < r' → r' * size ≡ t' * depth → t * depth < r * size → t * r' < t' * r
ratio_up t r t' r' size depth some some' is over = elim (cases_lt (t * r') (t' * r)) [
  | inl z ↦ z
  | inr z ↦ (
      let more : t * depth + 1 ≤ r * size = omega arith in
      let by_depth = mul-le-mul_left depth z in
      let by_r' = mul-le-mul_left r' more in
      let by_r = ap (λ (n : ℕ). r * n) is in
      absurd (omega arith))
]

module _ (table : List (List Arc)) (long : List ℕ) (s : IsSearchable table long) where
  length_low : (way : List Arc) → length_over (at long) way ≤ length way * 2 ^ 30
  length_low [] = omega arith
  length_low (a ∷ way) =
      let one = s.short a.act in
      let rest = length_low way in
      let sum = sum_by-cons (λ (b : Arc). at long b.act) a way in
      omega arith

  arc_low : (a : Arc) (i : ℕ) → is_in_row table i a ≡ true → a.lag ≤ 2 ^ 8
  arc_low a i h =
      let m = any_of (same_arc a) (row_of table i) h in
      let lag = eqb-true a.lag m.1.lag (and_parts (a.act == m.1.act) (a.lag == m.1.lag) m.3).1 in
      let low = s.low m.1 i (record { place = m.0; is = m.2 }) in
      omega arith

  lags_low : (i : ℕ) (way : List Arc) → is_way_in table i way ≡ true → lags way ≤ length way * 2 ^ 8
  lags_low i [] h = omega arith
  lags_low i (a ∷ way) h =
      let p = and_parts (is_in_row table (begin_or i way) a) (is_way_in table i way) h in
      let one = arc_low a (begin_or i way) p.0 in
      let rest = lags_low i way p.1 in
      let sum = sum_by-cons (λ (b : Arc). b.lag) a way in
      omega arith

  module _ (rate : Rate) (i : ℕ) (way : List Arc) (over : IsOver table long rate i way) where
    pub few : length way ≤ 2 ^ 22
    few = let z = over.few in let f = s.few in omega arith

    pub short : length_over (at long) way ≤ 2 ^ 52
    short = let z = length_low way in let f = few in omega arith

    pub low : lags way ≤ 2 ^ 30
    low = let z = lags_low i way over.leads in let f = few in omega arith

    module _ (act : ℕ) (before : List Arc) (now : IsSoFar table long rate act before) (next : Rate) (is : IsRateOver (at long) way next) where
      pub goes_on : IsSoFar table long next i way
      goes_on = record {
        some = is.some;
        low = (let z = is.low in let l = low in omega arith);
        lowest = is.lowest;
        exact = inr (both (is_cycle_in table i way) (next.reactions * length_over (at long) way == next.ticks * lags way)
            (both (begin_or i way == i) (is_way_in table i way && nat_le 1 (lags way)) (eq-eqb (begin_or i way) i over.begins)
            (both (is_way_in table i way) (nat_le 1 (lags way)) over.leads (le-leb 1 (lags way) over.later)))
            (eq-eqb (next.reactions * length_over (at long) way) (next.ticks * lags way) is.same));
      }

      pub less : height next < height rate
      less =
          let fewer : next.reactions ≤ 2 ^ 30 = goes_on.low in
          let product = mul-le rate.reactions next.reactions (2 ^ 30) (2 ^ 30) now.low fewer in
          let up = quotient_rises (2 ^ 60) rate.ticks rate.reactions next.ticks next.reactions now.some is.some (omega arith)
          (ratio_up rate.ticks rate.reactions next.ticks next.reactions (length_over (at long) way) (lags way) over.later is.some is.same over.longer) in
          let top = quotient_low (2 ^ 60 * next.ticks) next.reactions is.some in
          let f = is.few in
          let z = short in
          omega arith
