-- An executive by the clock keeps the order if offsets fit.
use Rattle.std.proofs.Common.{◌≡◌, ℕ, ◌+◌, ◌*◌, ◌<◌, ◌≤◌, List, Some, ap, inl, inr, arith}
use Rattle.std.specs.Prelude.{slice_get, ◌-◌, ◌/◌}
use Rattle.std.proofs.lemmas.Bool.{cases_lt}
use Rattle.std.proofs.Math.Nat.{mul-le-mul_left}
use Rattle.self_timed.specs.declared.Vertex.{Vertex}
use Rattle.self_timed.specs.Acts.{Act}
use Rattle.self_timed.specs.Dates.{Event, needs}
use Rattle.self_timed.proofs.Needs.{greatest_below}
use Rattle.rates.specs.Rates.{Sustains, KeepsOrder}
use Rattle.rates.proofs.Arced.{of_need}
use Rattle.rates.proofs.Sustained.{of_events}

-- if there is room for c times l, then the quotients by c have room for l
apart : (c a b l : ℕ) → 0 < c → a + c * l ≤ b → a / c + l ≤ b / c
apart c a b l pos h = elim (cases_lt (b / c) (a / c + l)) [
  | inl z ↦ (let more : b / c + 1 ≤ a / c + l = omega arith in let times = mul-le-mul_left c more in absurd (omega arith))
  | inr z ↦ z
]

module _ (depth : ℕ) (vertices : List Vertex) (xs : List Act) (long offset : ℕ → ℕ) (ticks reactions : ℕ) (some : 0 < reactions) (s : Sustains depth vertices xs long ticks reactions offset) where
  abbrev clock : ℕ → ℕ → ℕ
  clock k i = (k * ticks + offset i) / reactions

  pub keeps : KeepsOrder depth vertices xs (λ k i. long i) (λ k i. (k * ticks + offset i) / reactions)
  keeps k i x e =
      let fits = s.fits i x e in
      let alone : 0 / reactions + long i ≤ clock k i = apart reactions 0 (k * ticks + offset i) (long i) some (omega arith) in
      let start = greatest_below (λ d. clock d.reaction d.act) (needs depth vertices xs k i x) (clock k i - long i) each in
      omega arith
    where
      each : (r : ℕ) (d : Event) → slice_get (needs depth vertices xs k i x) r ≡ Some d → clock d.reaction d.act ≤ clock k i - long i
      each r d m =
          let f = of_need depth vertices xs k i x r d m in
          let reaches = f.reaches in
          let reaction = f.reaction in
          let sum : d.reaction + (k - d.reaction) ≡ k = omega arith in
          let times = ap (λ (n : ℕ). n * ticks) sum in
          let room = of_events depth vertices xs long offset ticks reactions s k i x e r d m in
          let z = apart reactions (d.reaction * ticks + offset d.act) (k * ticks + offset i) (long i) some (omega arith) in
          omega arith
