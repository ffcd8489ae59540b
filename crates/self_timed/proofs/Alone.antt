-- A schedule on one operator: a reaction takes as long as all acts do together.
use Rattle.std.proofs.Common.{◌≡◌, ℕ, zero, suc, ◌+◌, ◌-◌, ◌*◌, ◌<◌, ◌≤◌, Bool, true, List, [], ◌∷◌, map, take, length, max, Option, Some, refl, ap, ap₂, inl, inr, arith, ◌∙◌, nat_eq}
use Rattle.std.specs.Prelude.{slice_get, sum_by, ◌/◌}
use Rattle.std.specs.List.{range_with_len}
use Rattle.std.proofs.lemmas.Bool.{false≢true, eqb-true, eq-eqb, cases_lt}
use Rattle.std.proofs.lemmas.List.{take_all}
use Rattle.std.proofs.lemmas.List.Sums.{sum_by_push, sum_by-take-le}
use Rattle.std.proofs.lemmas.Option.{slice_get_within}
use Rattle.std.proofs.lemmas.Nat.{row_fits}
use Rattle.sequence_build_laws.specs.declared.Vertex.{Vertex}
use Rattle.sequence_build_laws.specs.Acts.{Act, carry, run, acts, is_on}
use Rattle.sequence_build_laws.specs.Tight.{same_line}
use Rattle.sequence_build_laws.proofs.Lists.{from_map, get_some, map_at, one_there, take_next}
use Rattle.sequence_build_laws.proofs.Sequences.{range_there, range_length}
use Rattle.self_timed.specs.Dates.{Event, dates, needs, start_by, with_act}
use Rattle.self_timed.specs.Entries.{stated}
use Rattle.self_timed.proofs.Lined.{inside, across}
use Rattle.self_timed.proofs.Needs.{needs_are, greatest_below}
use Rattle.self_timed.proofs.Ranks.{by_reaction}
use Rattle.self_timed.proofs.Solution.{are_dates}
use Rattle.self_timed.specs.Period.{as_stated, done_by, done_in, OneOperatorHasItsLengthAsPeriod}
use Rattle.self_timed.proofs.Greatest.{above, no_greater}
use Rattle.syn_base.specs.Numbers.{greatest}

-- how long the first acts last together
abbrev first_ticks : List Act → ℕ → ℕ
first_ticks xs i = sum_by stated (take i xs)

one_more : (xs : List Act) (i : ℕ) (x : Act) → slice_get xs i ≡ Some x → first_ticks xs (suc i) ≡ first_ticks xs i + stated x
one_more xs i x e = ap (λ (l : List Act). sum_by stated l) (take_next xs i x e) ∙ sum_by_push stated (take i xs) x

all_ticks : (xs : List Act) → first_ticks xs (length xs) ≡ sum_by stated xs
all_ticks xs = ap (λ (l : List Act). sum_by stated l) (take_all (length xs) xs (omega arith))

no_ticks : (xs : List Act) → first_ticks xs 0 ≡ 0
no_ticks [] = refl
no_ticks (x ∷ xs) = refl

rises : (xs : List Act) (i j : ℕ) → i ≤ j → j ≤ length xs → first_ticks xs i ≤ first_ticks xs j
rises xs i zero l m = let z : i ≡ 0 = omega arith in let e = ap (first_ticks xs) z in omega arith
rises xs i (suc j) l m = elim (cases_lt j i) [
  | inl h ↦ (let z : i ≡ suc j = omega arith in let e = ap (first_ticks xs) z in omega arith)
  | inr h ↦ (let x = get_some xs j m in let r = rises xs i j h (omega arith) in let o = one_more xs j x.0 x.1 in omega arith)
]

same_of : (o : ℕ) (x y : Act) → is_on o x ≡ true → is_on o y ≡ true → same_line x y ≡ true
same_of o (carry t) y p q = absurd (false≢true p)
same_of o (run d) (carry t) p q = absurd (false≢true q)
same_of o (run d) (run b) p q = let z = eqb-true d.operator o p in let w = eqb-true b.operator o q in let e : b.operator ≡ d.operator = omega arith in eq-eqb b.operator d.operator e

last_of : (ys : List Act) → 0 < length ys → (i : ℕ) × (y : Act) × (slice_get ys i ≡ Some y) × (suc i ≡ length ys)
last_of [] l = absurd (omega arith)
last_of (y ∷ []) l = (0, y, refl, refl)
last_of (y ∷ z ∷ ys) l = let r = last_of (z ∷ ys) (omega arith) in (suc r.0, r.1, r.2, (let e = r.3 in omega arith))

spare : (m h t : ℕ) → (m + h) * t - h * t ≡ m * t
spare m h t = omega arith

module _ (depth : ℕ) (deep : 1 ≤ depth) (vertices : List Vertex) (xs : List Act) (o : ℕ) (on : (i : ℕ) (x : Act) → slice_get xs i ≡ Some x → is_on o x ≡ true) where
  abbrev ends : ℕ → ℕ → ℕ
  ends = dates depth vertices xs (as_stated xs)

  abbrev total : ℕ
  total = sum_by stated xs

  abbrev IsThere : ℕ → ℕ → Type 0
  IsThere k i = (x : Act) → slice_get xs i ≡ Some x → dates depth vertices xs (as_stated xs) k i ≡ k * sum_by stated xs + first_ticks xs (suc i)

  abbrev begun : ℕ → ℕ → Act → ℕ
  begun k i x = start_by depth vertices xs (dates depth vertices xs (as_stated xs)) k i x

  -- it starts when all acts before it are done
  no_later : (k i : ℕ) → ((j h : ℕ) → j < k → IsThere j h) → ((h : ℕ) → h < i → IsThere k h) → (x : Act) → slice_get xs i ≡ Some x → begun k i x ≤ k * sum_by stated xs + first_ticks xs i
  no_later k i past now x e = greatest_below (λ e. dates depth vertices xs (as_stated xs) e.reaction e.act) (needs depth vertices xs k i x) (k * sum_by stated xs + first_ticks xs i) each
    where
      each : (r : ℕ) (d : Event) → slice_get (needs depth vertices xs k i x) r ≡ Some d → dates depth vertices xs (as_stated xs) d.reaction d.act ≤ k * sum_by stated xs + first_ticks xs i
      each r d m = elim (needs_are depth deep vertices xs k i x r d m) [
        | inl w ↦ (let z = now d.act w.less w.it w.stands in
            let same = ap (λ (j : ℕ). dates depth vertices xs (as_stated xs) j d.act) w.reaction in
            let low = slice_get_within xs i x e in
            let less = w.less in
            let up = rises xs (suc d.act) i less (omega arith) in
            omega arith)
        | inr b ↦ (let z = past d.reaction d.act b.less b.it b.stands in
            let up = sum_by-take-le stated xs (suc d.act) in
            let less = b.less in
            let fits = row_fits d.reaction (sum_by stated xs) k (sum_by stated xs) less (omega arith) in
            omega arith)
      ]

  -- and no earlier
  no_earlier : (k i : ℕ) → ((j h : ℕ) → j < k → IsThere j h) → ((h : ℕ) → h < i → IsThere k h) → (x : Act) → slice_get xs i ≡ Some x → k * sum_by stated xs + first_ticks xs i ≤ begun k i x
  no_earlier k (suc i) past now x e =
      let low = slice_get_within xs (suc i) x e in
      let y = get_some xs i (omega arith) in
      let less : i < suc i = omega arith in
      let z = now i less y.0 y.1 in
      let w = inside depth vertices xs (as_stated xs) ends (are_dates depth deep vertices xs (as_stated xs)) k (suc i) x e i y.0 y.1 (same_of o x y.0 (on (suc i) x e) (on i y.0 y.1)) less in
      omega arith
  no_earlier zero zero past now x e = let z = no_ticks xs in omega arith
  no_earlier (suc k) zero past now x e =
      let low = slice_get_within xs 0 x e in
      let y = last_of xs low in
      let z = past k y.0 (omega arith) y.1 y.2 in
      let w = across depth vertices xs (as_stated xs) ends (are_dates depth deep vertices xs (as_stated xs)) k 0 x e y.0 y.1 y.2 (same_of o x y.1 (on 0 x e) (on y.0 y.1 y.2)) in
      let all = ap (first_ticks xs) y.3 in
      let sum = all_ticks xs in
      let none = no_ticks xs in
      omega arith

  are_there : (k i : ℕ) → IsThere k i
  are_there = by_reaction IsThere (λ k i past now x e.
      let d = are_dates depth deep vertices xs (as_stated xs) k i x e in
      let u = no_later k i past now x e in
      let l = no_earlier k i past now x e in
      let is = ap (λ (p : Option Act). with_act p stated) e in
      let m = one_more xs i x e in
      omega arith)

  no_longer : (k : ℕ) → done_in (dates depth vertices xs (as_stated xs)) (length xs) k ≤ suc k * sum_by stated xs
  no_longer k = no_greater (map (dates depth vertices xs (as_stated xs) k) (range_with_len 0 (length xs))) (suc k * sum_by stated xs) (λ j m q.
      let w = from_map (dates depth vertices xs (as_stated xs) k) (range_with_len 0 (length xs)) j m q in
      let low = range_length 0 (length xs) j w.it w.stands in
      let number = one_there (range_with_len 0 (length xs)) j (0 + j) w.it (range_there 0 (length xs) j low) w.stands in
      let z : w.it ≡ j = omega arith in
      let x = get_some xs j low in
      let end = are_there k j x.0 x.1 in
      let most = sum_by-take-le stated xs (suc j) in
      let same = ap (dates depth vertices xs (as_stated xs) k) z in
      let is = w.is in
      omega arith)

  no_shorter : (k : ℕ) → suc k * sum_by stated xs ≤ done_in (dates depth vertices xs (as_stated xs)) (length xs) k
  no_shorter k = elim (cases_lt 0 (length xs)) [
    | inl h ↦ (let y = last_of xs h in
        let low = slice_get_within xs y.0 y.1 y.2 in
        let end = are_there k y.0 y.1 y.2 in
        let all = ap (first_ticks xs) y.3 in
        let sum = all_ticks xs in
        let none : 0 + y.0 ≡ y.0 = omega arith in
        let at_none = ap (dates depth vertices xs (as_stated xs) k) none in
        let most = above (map (dates depth vertices xs (as_stated xs) k) (range_with_len 0 (length xs))) y.0 (dates depth vertices xs (as_stated xs) k (0 + y.0))
        (map_at (dates depth vertices xs (as_stated xs) k) (range_with_len 0 (length xs)) y.0 (0 + y.0) (range_there 0 (length xs) y.0 low)) in
        omega arith)
    | inr h ↦ (let z : length xs ≡ 0 = omega arith in
        let sum = all_ticks xs in
        let same = ap (first_ticks xs) z in
        let none = no_ticks xs in
        let total : sum_by stated xs ≡ 0 = omega arith in
        let t = ap (λ (n : ℕ). suc k * n) total in
        omega arith)
  ]

  pub reactions_done : (m : ℕ) → done_by (dates depth vertices xs (as_stated xs)) (length xs) m ≡ m * sum_by stated xs
  reactions_done zero = omega arith
  reactions_done (suc m) = let u = no_longer m in let l = no_shorter m in let z = reactions_done m in omega arith

pub one_operator : OneOperatorHasItsLengthAsPeriod
one_operator g a s o n deep on =
    let all = reactions_done a.depth deep g.vertices (acts s) o on n in
    let half = reactions_done a.depth deep g.vertices (acts s) o on (n / 2) in
    let parts : n ≡ (n - n / 2) + n / 2 = omega arith in
    ap₂ (λ (x y : ℕ). x - y) all half
    ∙ ap (λ (m : ℕ). m * sum_by stated (acts s) - (n / 2) * sum_by stated (acts s)) parts
    ∙ spare (n - n / 2) (n / 2) (sum_by stated (acts s))
