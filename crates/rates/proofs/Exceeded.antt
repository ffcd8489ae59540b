-- Every rate is sustained with some offsets, or a cycle is over it: the search goes on as long as an arc has no room, and ends since each turn raises an offset.
use Rattle.std.proofs.Common.{
  ◌≡◌,
  ℕ,
  zero,
  suc,
  ◌+◌,
  ◌*◌,
  ◌<◌,
  ◌≤◌,
  ◌⊎◌,
  Bool,
  true,
  false,
  cond,
  ◌&&◌,
  List,
  [],
  ◌∷◌,
  length,
  Option,
  Some,
  None,
  refl,
  sym,
  ap,
  subst,
  inl,
  inr,
  arith,
  ◌∙◌,
  eq-eqb,
  ne_eqb,
}
use Rattle.std.specs.Prelude.{slice_get, nat_le, ◌-◌, ◌==◌}
use Rattle.std.specs.List.{list_all}
use Rattle.std.proofs.lemmas.Bool.{true≢false, and_cases, cases_eq, cases_lt, leb-false}
use Rattle.std.proofs.lemmas.Option.{slice_get_within}
use Rattle.self_timed.specs.declared.Vertex.{Vertex}
use Rattle.self_timed.specs.Acts.{Act}
use Rattle.self_timed.specs.Dates.{event}
use Rattle.self_timed.proofs.Needs.{needs_are}
use Rattle.rates.specs.declared.table.Arc.{Arc}
use Rattle.rates.specs.Arcs.{arcs}
use Rattle.rates.specs.Rates.{IsCycle, IsWayTo, Precedes, Sustains, begin_or, has_room, is_sustained, is_sustained_from, lags, length_over}
use Rattle.rates.proofs.Arced.{to_need}
use Rattle.rates.proofs.Cycles.{takes_reactions}
use Rattle.rates.specs.Search.{Avoids, Back, turned}
use Rattle.rates.proofs.Searching.{IsClosed, IsSearch, IsWay, at_first, closed, meets, offsets_low, part_back, raised, short, turned_size}
use Rattle.rates.proofs.Tested.{tested}

-- a table, by number, with one entry put
abbrev put : {A : Type 0} → (ℕ → A) → ℕ → A → ℕ → A
put f i v j = cond (j == i) v (f j)

put_here : {A : Type 0} (f : ℕ → A) (i : ℕ) (v : A) → put f i v i ≡ v
put_here f i v = ap (λ (b : Bool). cond b v (f i)) (eq-eqb i i refl)

put_other : {A : Type 0} (f : ℕ → A) (i : ℕ) (v : A) (j : ℕ) → (j ≡ i → ⊥) → put f i v j ≡ f j
put_other f i v j n = ap (λ (b : Bool). cond b v (f j)) (ne_eqb j i n)

-- the sum of the first numbers is at least each of them
abbrev pub total : (ℕ → ℕ) → ℕ → ℕ
total long zero = 0
total long (suc m) = long m + total long m

pub total_low : (long : ℕ → ℕ) (m i : ℕ) → i < m → long i ≤ total long m
total_low long zero i l = absurd (omega arith)
total_low long (suc m) i l = elim (cases_eq m i) [
  | inl e ↦ (let z = ap long e in omega arith)
  | inr n ↦ (let z = total_low long m i (omega arith) in omega arith)
]

-- how much is left below a bound, of the first numbers together
abbrev pub left : ℕ → (ℕ → ℕ) → ℕ → ℕ
left cap f zero = 0
left cap f (suc m) = (cap - f m) + left cap f m

left_same : (cap : ℕ) (f g : ℕ → ℕ) (m : ℕ) → ((j : ℕ) → j < m → g j ≡ f j) → left cap g m ≡ left cap f m
left_same cap f g zero h = refl
left_same cap f g (suc m) h = let one = h m (omega arith) in let rest = left_same cap f g m (λ j l. h j (omega arith)) in omega arith

pub left_less : (cap : ℕ) (f g : ℕ → ℕ) (i : ℕ) → f i < g i → g i ≤ cap → ((j : ℕ) → (j ≡ i → ⊥) → g j ≡ f j) → (m : ℕ) → i < m → left cap g m < left cap f m
left_less cap f g i up low other zero l = absurd (omega arith)
left_less cap f g i up low other (suc m) l = elim (cases_eq m i) [
  | inl e ↦ (
      let p = ap f e in
      let q = ap g e in
      let rest = left_same cap f g m (λ j b. other j (λ s. let z : m ≡ i = e in omega arith)) in
      omega arith)
  | inr n ↦ (let one = other m n in let rest = left_less cap f g i up low other m (omega arith) in omega arith)
]

some_fails : (p : Arc → Bool) (us : List Arc) → list_all p us ≡ false → (r : ℕ) × (a : Arc) × (slice_get us r ≡ Some a) × (p a ≡ false)
some_fails p [] h = absurd (true≢false h)
some_fails p (u ∷ us) h = elim (and_cases (p u) (list_all p us) h) [
  | inl f ↦ (0, u, refl, f)
  | inr f ↦ (let r = some_fails p us f in (suc r.0, r.1, r.2, r.3))
]

module _ (depth : ℕ) (deep : 1 ≤ depth) (vertices : List Vertex) (xs : List Act) (long : ℕ → ℕ) (ticks reactions : ℕ) where
  abbrev Found : Type 0
  Found = ((offset : ℕ → ℕ) × Sustains depth vertices xs long ticks reactions offset)
      ⊎ ((i : ℕ) × (way : List Arc) × IsCycle depth vertices xs i way × (ticks * lags way < reactions * length_over long way) × (length way ≤ length xs))

  abbrev Is : Arc → ℕ → Type 0
  Is a i = Precedes depth vertices xs a i

  abbrev IsSearched : (ℕ → ℕ) → (ℕ → Option Arc) → Type 0
  IsSearched offset given = IsSearch (length xs) Is long ticks reactions offset given

  -- an arc leads to an act that is there
  pub act_there : (a : Arc) (i : ℕ) → Is a i → a.act < length xs
  act_there a i p =
      let w = to_need depth vertices xs a.lag i p.it p.at a p.is (omega arith) in
      elim (needs_are depth deep vertices xs a.lag i p.it w.0 (event (a.lag - a.lag) a.act) w.1) [
        | inl n ↦ slice_get_within xs a.act n.it n.stands
        | inr b ↦ slice_get_within xs a.act b.it b.stands
      ]

  -- If offsets do not fit, some act has no room after the beginning, or after the act of an arc.
  abbrev Fails : (ℕ → ℕ) → ℕ → Act → Type 0
  Fails offset i x = (nat_le (reactions * long i) (offset i) ≡ false)
      ⊎ ((r : ℕ) × (a : Arc) × (slice_get (arcs depth vertices xs i x) r ≡ Some a) × (has_room long ticks reactions offset i a ≡ false))

  fails_at : (offset : ℕ → ℕ) (n : ℕ) (ys : List Act) → is_sustained_from depth vertices xs long ticks reactions offset n ys ≡ false
      → (i : ℕ) × (j : ℕ) × (x : Act) × (j ≡ n + i) × (slice_get ys i ≡ Some x) × Fails offset j x
  fails_at offset n [] h = absurd (true≢false h)
  fails_at offset n (y ∷ ys) h = elim
      (and_cases (nat_le (reactions * long n) (offset n))
      (list_all (has_room long ticks reactions offset n) (arcs depth vertices xs n y)
      && is_sustained_from depth vertices xs long ticks reactions offset (suc n) ys) h) [
        | inl f ↦ (0, n, y, omega arith, refl, inl f)
        | inr f ↦ elim (and_cases (list_all (has_room long ticks reactions offset n) (arcs depth vertices xs n y)) (is_sustained_from depth vertices xs long ticks reactions offset (suc n) ys) f) [
          | inl g ↦ (0, n, y, omega arith, refl, inr (some_fails (has_room long ticks reactions offset n) (arcs depth vertices xs n y) g))
          | inr g ↦ (let r = fails_at offset (suc n) ys g in let z = r.3 in (suc r.0, r.1, r.2, omega arith, r.4, r.5))
        ]
      ]

  -- an arc without room
  record HasNone (offset : ℕ → ℕ) : Type 0 where
    act : ℕ
    arc : Arc
    here : act < length xs
    is : Is arc act
    over : offset arc.act + reactions * long act ≤ offset act + arc.lag * ticks → ⊥

  has_none : (offset : ℕ → ℕ) (given : ℕ → Option Arc) → IsSearched offset given → is_sustained depth vertices xs long ticks reactions offset ≡ false → HasNone offset
  has_none offset given s h = by (fails_at offset 0 xs h)
    where
      by : (i : ℕ) × (j : ℕ) × (x : Act) × (j ≡ 0 + i) × (slice_get xs i ≡ Some x) × Fails offset j x → HasNone offset
      by r =
          let same : r.1 ≡ r.0 = (let z = r.3 in omega arith) in
          let there : slice_get xs r.1 ≡ Some r.2 = ap (slice_get xs) same ∙ r.4 in
          let within = slice_get_within xs r.1 r.2 there in
          elim r.5 [
            | inl f ↦ (let low = s.low r.1 within in let high = leb-false (reactions * long r.1) (offset r.1) f in absurd (omega arith))
            | inr f ↦ record {
              act = r.1;
              arc = f.1;
              here = within;
              is = record { it = r.2; there = there; at = f.0; is = f.2 };
              over = λ l. (let high = leb-false (offset f.1.act + reactions * long r.1) (offset r.1 + f.1.lag * ticks) f.3 in omega arith);
            }
          ]

  way_is : (i : ℕ) (way : List Arc) → IsWay (length xs) Is long ticks reactions i way → IsWayTo depth vertices xs i way
  way_is i [] h = tt
  way_is i (a ∷ way) h = (h.0, way_is i way h.1)

  later : (i : ℕ) (way : List Arc) → begin_or i way ≡ i → IsWayTo depth vertices xs i way → ticks * lags way < reactions * length_over long way → 0 < lags way
  later i [] b h l = absurd (omega arith)
  later i (a ∷ way) b h l = takes_reactions depth deep vertices xs a way (subst (λ (k : ℕ). IsWayTo depth vertices xs k (a ∷ way)) (sym b) h)

  cycle_is : (i : ℕ) (way : List Arc) → IsClosed (length xs) Is long ticks reactions i way → length way ≤ length xs → Found
  cycle_is i way c few =
      let leads = way_is i way c.leads in
      inr (i, way, record { begins = c.begins; leads = leads; later = later i way c.begins leads c.longer }, c.longer, few)

  -- no offset is above this
  abbrev cap : ℕ
  cap = reactions * (length xs * total long (length xs))

  record Next (offset : ℕ → ℕ) : Type 0 where
    after : ℕ → ℕ
    given : ℕ → Option Arc
    search : IsSearched after given
    less : left cap after (length xs) < left cap offset (length xs)

  module _ (offset : ℕ → ℕ) (given : ℕ → Option Arc) (s : IsSearched offset given) where
    goes : HasNone offset → Found ⊎ Next offset
    goes f = by (s.rooted f.arc.act there)
      where
        there : f.arc.act < length xs
        there = act_there f.arc f.act f.is

        over : offset f.act + f.arc.lag * ticks < offset f.arc.act + reactions * long f.act
        over = elim (cases_lt (offset f.act + f.arc.lag * ticks) (offset f.arc.act + reactions * long f.act)) [ inl l ↦ l | inr l ↦ absurd (f.over l) ]

        raise : (next : ℕ) → next + f.arc.lag * ticks ≡ offset f.arc.act + reactions * long f.act → (w : List Arc) → Back given f.arc.act w → Avoids f.act f.arc.act w → Next offset
        raise next is w back avoids = record {
          after = put offset f.act next;
          given = put given f.act (Some f.arc);
          search = search;
          less = left_less cap offset (put offset f.act next) f.act (let z = put_here offset f.act next in let o = over in let n = is in omega arith)
              (offsets_low (length xs) Is long ticks reactions (put offset f.act next) (put given f.act (Some f.arc)) search (total long (length xs)) (total_low long (length xs)) f.act f.here)
              (put_other offset f.act next) (length xs) f.here;
        }
          where
            search : IsSearched (put offset f.act next) (put given f.act (Some f.arc))
            search = raised (length xs) Is long ticks reactions offset given s f.act f.arc f.here there f.is over w back avoids (put offset f.act next) (put given f.act (Some f.arc))
                (let z = put_here offset f.act next in let n = is in omega arith) (put_other offset f.act next) (put_here given f.act (Some f.arc)) (put_other given f.act (Some f.arc))

        by : (w : List Arc) × Back given f.arc.act w → Found ⊎ Next offset
        by r = elim (meets given f.act f.arc.act r.0 r.1) [
          | inl u ↦ (
              let part = part_back given f.arc.act u.0 r.0 f.act u.1 r.1 in
              let few = short (length xs) Is long ticks reactions offset given s f.arc.act r.0 there r.1 in
              let size = turned_size u.0 (f.arc ∷ []) in
              inl (cycle_is f.act (turned u.0 (f.arc ∷ [])) (closed (length xs) Is long ticks reactions offset given s f.act f.arc f.here there f.is over u.0 u.1) (omega arith)))
          | inr avoids ↦ (
              let o = over in
              inr (raise (offset f.arc.act + reactions * long f.act - f.arc.lag * ticks) (omega arith) r.0 r.1 avoids))
        ]

    step : Found ⊎ Next offset
    step = by (is_sustained depth vertices xs long ticks reactions offset) refl
      where
        by : (b : Bool) → is_sustained depth vertices xs long ticks reactions offset ≡ b → Found ⊎ Next offset
        by true h = inl (inl (offset, tested depth vertices xs long ticks reactions offset h))
        by false h = goes (has_none offset given s h)

  searched : (fuel : ℕ) (offset : ℕ → ℕ) (given : ℕ → Option Arc) → IsSearched offset given → left cap offset (length xs) ≤ fuel → Found
  searched zero offset given s l = elim (step offset given s) [
    | inl found ↦ found
    | inr next ↦ (let z = next.less in absurd (omega arith))
  ]
  searched (suc fuel) offset given s l = elim (step offset given s) [
    | inl found ↦ found
    | inr next ↦ searched fuel next.after next.given next.search (let z = next.less in omega arith)
  ]

  pub found : Found
  found = searched (left cap (λ i. reactions * long i) (length xs)) (λ i. reactions * long i) (λ i. None) (at_first (length xs) Is long ticks reactions) (omega arith)
