-- Along a way each act ends later than the first one by all acts between them.
use Rattle.std.proofs.Common.{◌≡◌, ℕ, zero, suc, ◌+◌, ◌*◌, ◌<◌, ◌≤◌, List, [], ◌∷◌, ap, inl, inr, arith}
use Rattle.std.specs.Prelude.{◌-◌, ◌/◌, ◌%◌}
use Rattle.std.proofs.lemmas.Bool.{cases_lt}
use Rattle.std.proofs.lemmas.List.Sums.{sum_by-cons}
use Rattle.std.proofs.Math.Nat.{mul-le-mul_left}
use Rattle.self_timed.specs.declared.Vertex.{Vertex}
use Rattle.self_timed.specs.Acts.{Act}
use Rattle.self_timed.specs.Dates.{event, needs}
use Rattle.self_timed.proofs.Needs.{needs_are}
use Rattle.self_timed.proofs.Lined.{greatest_above}
use Rattle.rates.specs.declared.table.Arc.{Arc}
use Rattle.rates.specs.Rates.{NoneShorterThan, KeepsOrder, Sustains, Precedes, begin_or, IsWayTo, IsCycle, IsCriticalCycle, lags, length_over}
use Rattle.rates.proofs.Arced.{to_need}

module _ (depth : ℕ) (vertices : List Vertex) (xs : List Act) (long : ℕ → ℕ) where
  module _ (lasts ends : ℕ → ℕ → ℕ) (slow : NoneShorterThan xs long lasts) (keeps : KeepsOrder depth vertices xs lasts ends) where
    -- over one arc
    over : (a : Arc) (i : ℕ) → Precedes depth vertices xs a i → (k : ℕ) → ends k a.act + long i ≤ ends (k + a.lag) i
    over a i p k =
        let w = to_need depth vertices xs (k + a.lag) i p.it p.at a p.is (omega arith) in
        let above = greatest_above (λ d. ends d.reaction d.act) (needs depth vertices xs (k + a.lag) i p.it) w.0 (event (k + a.lag - a.lag) a.act) w.1 in
        let same : k + a.lag - a.lag ≡ k = omega arith in
        let end = ap (λ (j : ℕ). ends j a.act) same in
        let kept = keeps (k + a.lag) i p.it p.there in
        let least = slow (k + a.lag) i p.it p.there in
        omega arith

    -- over a whole way to act i: all acts but the first one last, and so does act i
    along : (i : ℕ) (way : List Arc) → IsWayTo depth vertices xs i way → (k : ℕ) → ends k (begin_or i way) + length_over long way + long i ≤ ends (k + lags way) i + long (begin_or i way)
    along i [] h k = let same : k + 0 ≡ k = omega arith in let end = ap (λ (j : ℕ). ends j i) same in omega arith
    along i (a ∷ way) h k =
        let first = over a (begin_or i way) h.0 k in
        let rest = along i way h.1 (k + a.lag) in
        let long_sum = sum_by-cons (λ (b : Arc). long b.act) a way in
        let lag_sum = sum_by-cons (λ (b : Arc). b.lag) a way in
        let same : k + a.lag + lags way ≡ k + lags (a ∷ way) = omega arith in
        let end = ap (λ (j : ℕ). ends j i) same in
        omega arith

    once : (i : ℕ) (way : List Arc) → IsCycle depth vertices xs i way → (k : ℕ) → ends k i + length_over long way ≤ ends (k + lags way) i
    once i way c k = let z = along i way c.leads k in let e = ap (ends k) c.begins in let l = ap long c.begins in omega arith

    pub turns : (i : ℕ) (way : List Arc) → IsCycle depth vertices xs i way → (k n : ℕ) → ends k i + n * length_over long way ≤ ends (k + n * lags way) i
    turns i way c k zero = let same : k + 0 * lags way ≡ k = omega arith in let end = ap (λ (j : ℕ). ends j i) same in omega arith
    turns i way c k (suc n) =
        let before = turns i way c k n in
        let last = once i way c (k + n * lags way) in
        let same : k + n * lags way + lags way ≡ k + suc n * lags way = omega arith in
        let end = ap (λ (j : ℕ). ends j i) same in
        omega arith

  module _ (offset : ℕ → ℕ) (ticks reactions : ℕ) (s : Sustains depth vertices xs long ticks reactions offset) where
    room : (i : ℕ) (way : List Arc) → IsWayTo depth vertices xs i way
        → offset (begin_or i way) + reactions * length_over long way + reactions * long i ≤ offset i + lags way * ticks + reactions * long (begin_or i way)
    room i [] h = omega arith
    room i (a ∷ way) h =
        let p = h.0 in
        let first = s.follows (begin_or i way) p.it p.there p.at a p.is in
        let rest = room i way h.1 in
        let long_sum = ap (λ (n : ℕ). reactions * n) (sum_by-cons (λ (b : Arc). long b.act) a way) in
        let lag_sum = ap (λ (n : ℕ). n * ticks) (sum_by-cons (λ (b : Arc). b.lag) a way) in
        omega arith

    pub no_faster : (i : ℕ) (way : List Arc) → IsCycle depth vertices xs i way → reactions * length_over long way ≤ ticks * lags way
    no_faster i way c = let z = room i way c.leads in let e = ap offset c.begins in let l = ap (λ (j : ℕ). reactions * long j) c.begins in omega arith

  module _ (ticks reactions : ℕ) (lasts ends : ℕ → ℕ → ℕ) where
    pub exact_below : NoneShorterThan xs long lasts → KeepsOrder depth vertices xs lasts ends → (i : ℕ) (way : List Arc) → IsCriticalCycle depth vertices xs long ticks reactions i way
        → (k : ℕ) → k * ticks ≤ reactions * ends k i + (lags way - 1) * ticks
    exact_below slow keeps i way c k = by (k / lags way) (k % lags way) (let l = c.cycle.later in omega arith) (let l = c.cycle.later in omega arith)
      where
        by : (n r : ℕ) → r + n * lags way ≡ k → r ≤ lags way - 1 → k * ticks ≤ reactions * ends k i + (lags way - 1) * ticks
        by n r same less =
            let z = turns lasts ends slow keeps i way c.cycle r n in
            let end = ap (λ (j : ℕ). ends j i) same in
            let least : n * length_over long way ≤ ends k i = omega arith in
            let times = mul-le-mul_left reactions least in
            let rates = ap (λ (m : ℕ). n * m) c.rate in
            let rest = mul-le-mul_left ticks less in
            let all = ap (λ (m : ℕ). m * ticks) same in
            omega arith

-- an arc over no reaction leads to an act with a lower number
module _ (depth : ℕ) (deep : 1 ≤ depth) (vertices : List Vertex) (xs : List Act) where
  pub up : (a : Arc) (i : ℕ) → Precedes depth vertices xs a i → a.lag ≡ 0 → a.act < i
  up a i p z =
      let w = to_need depth vertices xs 0 i p.it p.at a p.is (omega arith) in
      elim (needs_are depth deep vertices xs 0 i p.it w.0 (event (0 - a.lag) a.act) w.1) [
        | inl n ↦ n.less
        | inr b ↦ (let less = b.less in absurd (omega arith))
      ]

  all_up : (i : ℕ) (a : Arc) (way : List Arc) → IsWayTo depth vertices xs i (a ∷ way) → lags (a ∷ way) ≡ 0 → a.act < i
  all_up i a [] h z = let s = sum_by-cons (λ (c : Arc). c.lag) a [] in up a i h.0 (omega arith)
  all_up i a (b ∷ way) h z =
      let s = sum_by-cons (λ (c : Arc). c.lag) a (b ∷ way) in
      let first = up a b.act h.0 (omega arith) in
      let rest = all_up i b way h.1 (omega arith) in
      omega arith

  pub takes_reactions : (a : Arc) (way : List Arc) → IsWayTo depth vertices xs a.act (a ∷ way) → 0 < lags (a ∷ way)
  takes_reactions a way h = elim (cases_lt 0 (lags (a ∷ way))) [
    | inl l ↦ l
    | inr l ↦ (let less = all_up a.act a way h (omega arith) in absurd (omega arith))
  ]
