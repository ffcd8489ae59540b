-- There is one exact rate: each is at least the cycle of the other one.
use Rattle.std.proofs.Common.{◌≡◌, ℕ, ◌+◌, ◌*◌, ◌<◌, ◌≤◌, ◌⊎◌, List, ap, inl, inr, arith}
use Rattle.std.proofs.lemmas.Bool.{cases_lt}
use Rattle.std.proofs.Math.Nat.{mul-le-mul_left}
use Rattle.self_timed.specs.declared.Vertex.{Vertex}
use Rattle.self_timed.specs.Acts.{Act}
use Rattle.rates.specs.declared.table.Arc.{Arc}
use Rattle.rates.specs.Rates.{IsCriticalCycle, Sustains, lags, length_over}
use Rattle.rates.proofs.Cycles.{no_faster}

-- if a cycle takes t' ticks for r' reactions, and at most t for r, then t' for r' is at most t for r
ratio_low : (t r t' r' size depth : ℕ) → 0 < depth → r' * size ≡ t' * depth → r * size ≤ t * depth → t' * r ≤ t * r'
ratio_low t r t' r' size depth some is low = elim (cases_lt (t * r') (t' * r)) [
  | inl z ↦ (
      let more : t * r' + 1 ≤ t' * r = omega arith in
      let by_depth = mul-le-mul_left depth more in
      let by_r' = mul-le-mul_left r' low in
      let by_r = mul-le-mul_left r (let back : t' * depth ≤ r' * size = omega arith in back) in
      absurd (omega arith))
  | inr z ↦ z
]

module _ (depth : ℕ) (vertices : List Vertex) (xs : List Act) (long : ℕ → ℕ) where
  abbrev IsSustained : ℕ → ℕ → Type 0
  IsSustained ticks reactions = (offset : ℕ → ℕ) × Sustains depth vertices xs long ticks reactions offset

  abbrev IsExact : ℕ → ℕ → Type 0
  IsExact ticks reactions = (ticks ≡ 0) ⊎ ((i : ℕ) × (way : List Arc) × IsCriticalCycle depth vertices xs long ticks reactions i way)

  -- an exact rate is at most one that is sustained
  lowest : (ticks reactions more over : ℕ) → IsSustained ticks reactions → IsExact more over → more * reactions ≤ ticks * over
  lowest ticks reactions more over s (inl none) = (let z = ap (λ (m : ℕ). m * reactions) none in omega arith)
  lowest ticks reactions more over s (inr c) =
      let low = no_faster depth vertices xs long s.0 ticks reactions s.1 c.0 c.1 c.2.cycle in
      ratio_low ticks reactions more over (length_over long c.1) (lags c.1) c.2.cycle.later c.2.rate low

  pub one_rate : (ticks reactions more over : ℕ) → 0 < reactions → 0 < over → IsSustained ticks reactions → IsSustained more over
      → IsExact ticks reactions → IsExact more over → ticks * over ≡ more * reactions
  one_rate ticks reactions more over some some' s s' e e' =
      let up = lowest ticks reactions more over s e' in
      let down = lowest more over ticks reactions s' e in
      omega arith
