-- If offsets fit, all dates are no later than the rate says.
use Rattle.std.proofs.Common.{◌≡◌, ℕ, suc, ◌+◌, ◌*◌, ◌<◌, ◌≤◌, List, [], ◌∷◌, map, max, Some, refl, ap, inl, inr, arith}
use Rattle.std.specs.Prelude.{slice_get, ◌-◌}
use Rattle.std.proofs.lemmas.Bool.{cases_lt}
use Rattle.std.proofs.Math.Nat.{mul-le-mul_left}
use Rattle.self_timed.specs.declared.Vertex.{Vertex}
use Rattle.self_timed.specs.Acts.{Act}
use Rattle.self_timed.specs.Dates.{Event, event, needs, AreDates}
use Rattle.syn_base.specs.Numbers.{greatest}
use Rattle.self_timed.proofs.Needs.{needs_are}
use Rattle.self_timed.proofs.Ranks.{by_reaction}
use Rattle.rates.specs.declared.table.Arc.{Arc}
use Rattle.rates.specs.Arcs.{arcs}
use Rattle.rates.specs.Rates.{NoneLongerThan, Sustains}
use Rattle.rates.proofs.Arced.{to_need, of_need}

-- if c times each of these leaves room for m below a bound, so does c times the greatest
greatest_times : (f : Event → ℕ) (c m bound : ℕ) (es : List Event) → m ≤ bound → ((r : ℕ) (e : Event) → slice_get es r ≡ Some e → c * f e + m ≤ bound) → c * greatest (map f es) + m ≤ bound
greatest_times f c m bound [] l h = omega arith
greatest_times f c m bound (e ∷ es) l h = elim (cases_lt (f e) (greatest (map f es))) [
  | inl z ↦ (let is : max (f e) (greatest (map f es)) ≡ greatest (map f es) = omega arith in let w = ap (λ (n : ℕ). c * n) is in
      let y = greatest_times f c m bound es l (λ r d q. h (suc r) d q) in omega arith)
  | inr z ↦ (let is : max (f e) (greatest (map f es)) ≡ f e = omega arith in let w = ap (λ (n : ℕ). c * n) is in let y = h 0 e refl in omega arith)
]

module _ (depth : ℕ) (vertices : List Vertex) (xs : List Act) (long offset : ℕ → ℕ) (ticks reactions : ℕ) where
  -- an act fits after each event that must precede it
  pub of_events : Sustains depth vertices xs long ticks reactions offset → (k i : ℕ) (x : Act) → slice_get xs i ≡ Some x → (r : ℕ) (e : Event) → slice_get (needs depth vertices xs k i x) r ≡ Some e
      → offset e.act + reactions * long i ≤ offset i + (k - e.reaction) * ticks
  of_events s k i x h r e q =
      let f = of_need depth vertices xs k i x r e q in
      let b = s.follows i x h f.at f.it f.there in
      let same = ap offset f.act in
      let reaches = f.reaches in
      let reaction = f.reaction in
      let lag : k - e.reaction ≡ f.it.lag = omega arith in
      let times = ap (λ (n : ℕ). n * ticks) lag in
      omega arith

  pub from_events : ((i : ℕ) (x : Act) → slice_get xs i ≡ Some x → reactions * long i ≤ offset i)
      → ((k i : ℕ) (x : Act) → slice_get xs i ≡ Some x → (r : ℕ) (e : Event) → slice_get (needs depth vertices xs k i x) r ≡ Some e
      → offset e.act + reactions * long i ≤ offset i + (k - e.reaction) * ticks)
      → Sustains depth vertices xs long ticks reactions offset
  from_events fits follows = record { fits = fits; follows = each }
    where
      each : (i : ℕ) (x : Act) → slice_get xs i ≡ Some x → (r : ℕ) (a : Arc) → slice_get (arcs depth vertices xs i x) r ≡ Some a → offset a.act + reactions * long i ≤ offset i + a.lag * ticks
      each i x h r a q =
          let w = to_need depth vertices xs a.lag i x r a q (omega arith) in
          let b = follows a.lag i x h w.0 (event (a.lag - a.lag) a.act) w.1 in
          let lag : a.lag - (a.lag - a.lag) ≡ a.lag = omega arith in
          let times = ap (λ (n : ℕ). n * ticks) lag in
          omega arith

  module _ (deep : 1 ≤ depth) (s : Sustains depth vertices xs long ticks reactions offset) (lasts ends : ℕ → ℕ → ℕ)
      (short : NoneLongerThan xs long lasts) (are : AreDates depth vertices xs lasts ends) where
    abbrev InTime : ℕ → ℕ → Type 0
    InTime k i = (x : Act) → slice_get xs i ≡ Some x → reactions * ends k i ≤ k * ticks + offset i

    pub sustained : (k i : ℕ) (x : Act) → slice_get xs i ≡ Some x → reactions * ends k i ≤ k * ticks + offset i
    sustained = by_reaction InTime step
      where
        step : (k i : ℕ) → ((j h : ℕ) → j < k → InTime j h) → ((h : ℕ) → h < i → InTime k h) → InTime k i
        step k i past now x e =
            let fits = s.fits i x e in
            let start = greatest_times (λ d. ends d.reaction d.act) reactions (reactions * long i) (k * ticks + offset i) (needs depth vertices xs k i x) (omega arith) each in
            let is = ap (λ (n : ℕ). reactions * n) (are k i x e) in
            let times = mul-le-mul_left reactions (short k i x e) in
            omega arith
          where
            -- if what must precede an act is in time, then there is room for the act
            then : (d : Event) (lag : ℕ) → d.reaction + lag ≡ k → reactions * ends d.reaction d.act ≤ d.reaction * ticks + offset d.act → offset d.act + reactions * long i ≤ offset i + lag * ticks
                → reactions * ends d.reaction d.act + reactions * long i ≤ k * ticks + offset i
            then d lag sum ended room = let times = ap (λ (n : ℕ). n * ticks) sum in omega arith

            each : (r : ℕ) (d : Event) → slice_get (needs depth vertices xs k i x) r ≡ Some d → reactions * ends d.reaction d.act + reactions * long i ≤ k * ticks + offset i
            each r d m = elim (needs_are depth deep vertices xs k i x r d m) [
              | inl n ↦ (let same = n.reaction in
                  then d (k - d.reaction) (omega arith)
                  (let same_end = ap (λ (j : ℕ). reactions * ends j d.act) n.reaction in
                  let same_ticks = ap (λ (j : ℕ). j * ticks) n.reaction in let bound = now d.act n.less n.it n.stands in omega arith)
                  (of_events s k i x e r d m))
              | inr p ↦ (let less = p.less in then d (k - d.reaction) (omega arith) (past d.reaction d.act p.less p.it p.stands) (of_events s k i x e r d m))
            ]
