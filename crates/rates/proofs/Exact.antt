-- Some rate is exact: from no ticks on, each cycle that is over a rate gives a higher one, and there are finitely many.
use Rattle.std.proofs.Common.{◌≡◌, ℕ, zero, suc, ◌+◌, ◌*◌, ◌<◌, ◌≤◌, ◌⊎◌, List, [], ◌∷◌, ◌++◌, length, map, take, Option, Some, None, refl, ap, inl, inr, arith}
use Rattle.std.specs.Prelude.{slice_get, ◌-◌, ◌/◌}
use Rattle.std.proofs.lemmas.Bool.{cases_lt}
use Rattle.std.proofs.lemmas.Nat.{div-add-mod', le-div, mul-le}
use Rattle.std.proofs.lemmas.Option.{same_Some}
use Rattle.std.proofs.lemmas.List.Sums.{sum_by-cons}
use Rattle.std.proofs.Math.Nat.{mul-le-mul_left}
use Rattle.self_timed.specs.declared.Vertex.{Vertex}
use Rattle.self_timed.specs.Acts.{Act}
use Rattle.self_timed.specs.Tight.{same_line, reads_from}
use Rattle.self_timed.specs.Serial.{numbers_where}
use Rattle.self_timed.proofs.Lists.{from_append, from_map}
use Rattle.self_timed.specs.Dates.{has_reader, last_where}
use Rattle.rates.specs.declared.table.Arc.{Arc}
use Rattle.rates.specs.Arcs.{arc, latest_arc}
use Rattle.rates.specs.Rates.{IsCriticalCycle, IsCycle, IsWayTo, Precedes, Sustains, begin_or, lags, length_over}
use Rattle.rates.proofs.Exceeded.{act_there, found, total, total_low}

-- Of two ratios with bounded denominators, the greater one has a greater quotient.
above : (bound t r t' r' q : ℕ) → 0 < r → r * r' ≤ bound → t * r' < t' * r → q * r ≤ bound * t → (q + 1) * r' ≤ bound * t'
above bound t r t' r' q some low less at = elim (cases_lt (bound * t') ((q + 1) * r')) [
  | inl z ↦ (
      let lower : bound * t' + 1 ≤ (q + 1) * r' = omega arith in
      let by_r = mul-le-mul_left r lower in
      let by_r' = mul-le-mul_left r' at in
      let apart : t * r' + 1 ≤ t' * r = omega arith in
      let by_bound = mul-le-mul_left bound apart in
      absurd (omega arith))
  | inr z ↦ z
]

pub quotient_rises : (bound t r t' r' : ℕ) → 0 < r → 0 < r' → r * r' ≤ bound → t * r' < t' * r → bound * t / r < bound * t' / r'
quotient_rises bound t r t' r' some some' low less =
    let parts = div-add-mod' (bound * t) r in
    let at : bound * t / r * r ≤ bound * t = omega arith in
    let z = le-div (bound * t / r + 1) (bound * t') r' some' (above bound t r t' r' (bound * t / r) some low less at) in
    omega arith

-- a quotient is no greater than what is divided
pub quotient_low : (n r : ℕ) → 0 < r → n / r ≤ n
quotient_low n r some =
    let parts = div-add-mod' n r in
    let one : 1 ≤ r = omega arith in
    let times = mul-le-mul_left (n / r) one in
    omega arith

latest_low : (o l : Option ℕ) (r : ℕ) (a : Arc) → slice_get (latest_arc o l) r ≡ Some a → a.lag ≤ 1
latest_low (Some i) l zero a e = let z = ap (λ (b : Arc). b.lag) (same_Some (arc 0 i) a e) in omega arith
latest_low (Some i) l (suc r) a e = absurd cc
latest_low None (Some i) zero a e = let z = ap (λ (b : Arc). b.lag) (same_Some (arc 1 i) a e) in omega arith
latest_low None (Some i) (suc r) a e = absurd cc
latest_low None None r a e = absurd cc

module _ (depth : ℕ) (deep : 1 ≤ depth) (vertices : List Vertex) (xs : List Act) where
  parts_low : (o l : Option ℕ) (made readers : List ℕ) (r : ℕ) (a : Arc) → slice_get (latest_arc o l ++ (map (arc 0) made ++ map (arc depth) readers)) r ≡ Some a → a.lag ≤ 1 + depth
  parts_low o l made readers r a e = elim (from_append (latest_arc o l) (map (arc 0) made ++ map (arc depth) readers) r a e) [
    | inl h ↦ (let z = latest_low o l r a h in omega arith)
    | inr h ↦ elim (from_append (map (arc 0) made) (map (arc depth) readers) h.at a h.stands) [
      | inl b ↦ (let f = from_map (arc 0) made h.at a b in let z = ap (λ (c : Arc). c.lag) f.is in omega arith)
      | inr b ↦ (let f = from_map (arc depth) readers b.at a b.stands in let z = ap (λ (c : Arc). c.lag) f.is in omega arith)
    ]
  ]

  -- no arc leads further back than this
  pub lag_low : (a : Arc) (i : ℕ) → Precedes depth vertices xs a i → a.lag ≤ 1 + depth
  lag_low a i p =
      parts_low (last_where (same_line p.it) 0 (take i xs)) (last_where (same_line p.it) 0 xs) (numbers_where (reads_from vertices p.it) 0 (take i xs)) (numbers_where (has_reader vertices p.it) 0 xs)
      p.at a p.is

  lags_low : (i : ℕ) (way : List Arc) → IsWayTo depth vertices xs i way → lags way ≤ length way * (1 + depth)
  lags_low i [] h = omega arith
  lags_low i (a ∷ way) h =
      let one = lag_low a (begin_or i way) h.0 in
      let rest = lags_low i way h.1 in
      let sum = sum_by-cons (λ (b : Arc). b.lag) a way in
      omega arith

  module _ (long : ℕ → ℕ) where
    length_low : (i : ℕ) (way : List Arc) → IsWayTo depth vertices xs i way → length_over long way ≤ length way * total long (length xs)
    length_low i [] h = omega arith
    length_low i (a ∷ way) h =
        let one = total_low long (length xs) a.act (act_there depth deep vertices xs long 0 0 a (begin_or i way) h.0) in
        let rest = length_low i way h.1 in
        let sum = sum_by-cons (λ (b : Arc). long b.act) a way in
        omega arith

    abbrev IsExact : ℕ → ℕ → Type 0
    IsExact ticks reactions = (ticks ≡ 0) ⊎ ((i : ℕ) × (way : List Arc) × IsCriticalCycle depth vertices xs long ticks reactions i way)

    abbrev Exact : Type 0
    Exact = (ticks : ℕ) × (reactions : ℕ) × (0 < reactions) × ((offset : ℕ → ℕ) × Sustains depth vertices xs long ticks reactions offset) × IsExact ticks reactions

    -- No cycle that is found leads over more reactions, or takes more ticks, than these.
    module _ (most_lags most_ticks bound : ℕ) (one : 1 ≤ most_lags) (squared : most_lags * most_lags ≤ bound)
        (lags_few : (i : ℕ) (way : List Arc) → IsWayTo depth vertices xs i way → length way ≤ length xs → lags way ≤ most_lags)
        (ticks_few : (i : ℕ) (way : List Arc) → IsWayTo depth vertices xs i way → length way ≤ length xs → length_over long way ≤ most_ticks) where
      -- a higher rate that is that of a cycle
      record Higher (ticks reactions : ℕ) : Type 0 where
        more : ℕ
        over : ℕ
        some : 0 < over
        low : over ≤ most_lags
        exact : IsExact more over
        up : bound * ticks / reactions < bound * more / over
        within : bound * more / over ≤ bound * most_ticks

      higher : (ticks reactions : ℕ) → 0 < reactions → reactions ≤ most_lags → (i : ℕ) (way : List Arc) → IsCycle depth vertices xs i way
          → ticks * lags way < reactions * length_over long way → length way ≤ length xs → Higher ticks reactions
      higher ticks reactions some low i way c far few =
          let fewer = lags_few i way c.leads few in
          let shorter = ticks_few i way c.leads few in
          let less : ticks * lags way < length_over long way * reactions = omega arith in
          let quotient = quotient_low (bound * length_over long way) (lags way) c.later in
          let all = mul-le-mul_left bound shorter in
          let product = mul-le reactions (lags way) most_lags most_lags low fewer in
          let square = squared in
          record {
            more = length_over long way;
            over = lags way;
            some = c.later;
            low = fewer;
            exact = inr (i, way, record { cycle = c; rate = omega arith });
            up = quotient_rises bound ticks reactions (length_over long way) (lags way) some c.later (omega arith) less;
            within = omega arith;
          }

      turn : (ticks reactions : ℕ) → 0 < reactions → reactions ≤ most_lags → IsExact ticks reactions → Exact ⊎ Higher ticks reactions
      turn ticks reactions some low exact = elim (found depth deep vertices xs long ticks reactions) [
        | inl f ↦ inl (ticks, reactions, some, f, exact)
        | inr c ↦ inr (higher ticks reactions some low c.0 c.1 c.2 c.3 c.4)
      ]

      goes : (fuel ticks reactions : ℕ) → 0 < reactions → reactions ≤ most_lags → IsExact ticks reactions → bound * most_ticks - bound * ticks / reactions ≤ fuel → Exact
      goes zero ticks reactions some low exact left = elim (turn ticks reactions some low exact) [
        | inl e ↦ e
        | inr h ↦ (let up = h.up in let top = h.within in absurd (omega arith))
      ]
      goes (suc fuel) ticks reactions some low exact left = elim (turn ticks reactions some low exact) [
        | inl e ↦ e
        | inr h ↦ (let up = h.up in let top = h.within in goes fuel h.more h.over h.some h.low h.exact (omega arith))
      ]

      at_last : Exact
      at_last = goes (bound * most_ticks - bound * 0 / 1) 0 1 (omega arith) one (inl refl) (omega arith)

    pub exact : Exact
    exact =
        let most = 1 + length xs * (1 + depth) in
        at_last most (length xs * total long (length xs)) (most * most) (omega arith) (omega arith)
        (λ i way h few. (let deepest = lags_low i way h in let all = mul-le (length way) (1 + depth) (length xs) (1 + depth) few (omega arith) in omega arith))
        (λ i way h few. (let longest = length_low i way h in let all = mul-le (length way) (total long (length xs)) (length xs) (total long (length xs)) few (omega arith) in omega arith))
