-- In a lane of a trace of dates nothing overlaps.
use Rattle.std.proofs.Common.{◌≡◌, ℕ, zero, suc, ◌+◌, ◌<◌, ◌≤◌, Bool, true, List, [], ◌∷◌, ◌++◌, length, map, take, Option, Some, refl, sym, ap, inl, inr, arith, ◌∙◌, eq-eqb}
use Rattle.std.specs.Prelude.{◌⊎◌, slice_get, nat_le}
use Rattle.std.proofs.lemmas.Bool.{and_parts, leb-true, cases_eq}
use Rattle.std.proofs.lemmas.Option.{same_Some, slice_get_within}
use Rattle.self_timed.specs.declared.Vertex.{Vertex}
use Rattle.self_timed.specs.Graph.{Graph}
use Rattle.self_timed.specs.Archi.{Architecture, is_archi, is_depth}
use Rattle.self_timed.specs.declared.Schedule.{Schedule}
use Rattle.self_timed.specs.Acts.{Act, carry, run, acts}
use Rattle.self_timed.specs.Tight.{same_line}
use Rattle.self_timed.specs.ScheduleValid.{is_valid}
use Rattle.self_timed.specs.Dates.{AreDates, dates, start_by}
use Rattle.self_timed.specs.Entries.{lasting}
use Rattle.self_timed.proofs.Whole.{dates_are_one, lines_are_in_order}
use Rattle.self_timed.specs.declared.dates.Span.{Span}
use Rattle.self_timed.specs.Running.{span}
use Rattle.dates_text.specs.Listing.{Dated, dated, dated_from, dated_in, all_dates}
use Rattle.trace_events.specs.Events.{Slice}
use Rattle.trace_events.specs.Trace.{lane_of, slice_of}
use Rattle.trace_events.specs.Shown.{slices}
use Rattle.trace_events.proofs.Lanes.{act_at, few_operators, in_line, Mapped, mapped}
use Rattle.trace_events.specs.DatesTrace.{moment_of, dates_events}
use Rattle.trace_events.specs.DatesShown.{DatesOneAfterAnother}
use Rattle.trace_events.proofs.DatesShown.{each_date_once}

side : {A : Type 0} (xs ys : List A) (n : ℕ) (x : A) → slice_get (xs ++ ys) n ≡ Some x
    → (slice_get xs n ≡ Some x) ⊎ ((k : ℕ) × (n ≡ length xs + k) × (slice_get ys k ≡ Some x))
side [] ys n x e = inr (n, omega arith, e)
side (y ∷ xs) ys zero x e = inl e
side (y ∷ xs) ys (suc n) x e = later (side xs ys n x e)
  where
    later : (slice_get xs n ≡ Some x) ⊎ ((k : ℕ) × (n ≡ length xs + k) × (slice_get ys k ≡ Some x))
        → (slice_get (y ∷ xs) (suc n) ≡ Some x) ⊎ ((k : ℕ) × (suc n ≡ length (y ∷ xs) + k) × (slice_get ys k ≡ Some x))
    later (inl h) = inl h
    later (inr h) = inr (h.0, (let z = h.1 in omega arith), h.2)

same_as_itself : (x : Act) → same_line x x ≡ true
same_as_itself (run d) = eq-eqb d.operator d.operator refl
same_as_itself (carry t) = eq-eqb t.medium t.medium refl

-- the act of a dated act, by its place
record IsDated (when : ℕ → ℕ → Act → Span) (xs : List Act) (k p : ℕ) (d : Dated) : Type 0 where
  there : slice_get xs p ≡ Some d.act
  when_is : d.when ≡ when k p d.act

module _ (when : ℕ → ℕ → Act → Span) where
  from_at : (k m : ℕ) (xs : List Act) (p : ℕ) (d : Dated) → slice_get (dated_from when k m xs) p ≡ Some d
      → (slice_get xs p ≡ Some d.act) × (d.when ≡ when k (m + p) d.act)
  from_at k m [] p d e = absurd cc
  from_at k m (x ∷ xs) zero d e =
      let same = same_Some (dated k (when k m x) x) d e in
      let act : x ≡ d.act = ap (λ (z : Dated). z.act) same in
      let none : m ≡ m + 0 = omega arith in
      (ap (λ (z : Act). Some z) act, ap (λ (z : Dated). z.when) (sym same) ∙ (λ j. when k (none j) (act j)))
  from_at k m (x ∷ xs) (suc p) d e =
      let r = from_at k (suc m) xs p d e in
      let same : suc m + p ≡ m + suc p = omega arith in
      (r.0, r.1 ∙ ap (λ (n : ℕ). when k n d.act) same)

  reaction_at : (k : ℕ) (xs : List Act) (p : ℕ) (d : Dated) → slice_get (dated_from when k 0 xs) p ≡ Some d → IsDated when xs k p d
  reaction_at k xs p d e =
      let r = from_at k 0 xs p d e in
      let none : 0 + p ≡ p = omega arith in
      record { there = r.0; when_is = r.1 ∙ ap (λ (n : ℕ). when k n d.act) none }

  -- a dated act of this many reactions, by its reaction and its place there
  record Placed (xs : List Act) (n : ℕ) (d : Dated) : Type 0 where
    reaction : ℕ
    place : ℕ
    less : reaction < n
    is : IsDated when xs reaction place d

  placed : (n : ℕ) (xs : List Act) (i : ℕ) (d : Dated) → slice_get (dated_in when n xs) i ≡ Some d → Placed xs n d
  placed zero xs i d e = absurd cc
  placed (suc k) xs i d e = by (λ h. placed k xs i d h) (side (dated_in when k xs) (dated_from when k 0 xs) i d e)
    where
      later : Placed xs k d → Placed xs (suc k) d
      later r = record { reaction = r.reaction; place = r.place; less = (let l = r.less in omega arith); is = r.is }

      by : (slice_get (dated_in when k xs) i ≡ Some d → Placed xs k d)
          → (slice_get (dated_in when k xs) i ≡ Some d) ⊎ ((q : ℕ) × (i ≡ length (dated_in when k xs) + q) × (slice_get (dated_from when k 0 xs) q ≡ Some d)) → Placed xs (suc k) d
      by rest (inl h) = later (rest h)
      by rest (inr h) = record { reaction = k; place = h.0; less = omega arith; is = reaction_at k xs h.0 d h.2 }

module _ (depth : ℕ) (vertices : List Vertex) (xs : List Act) (lasts ends : ℕ → ℕ → ℕ) (are : AreDates depth vertices xs lasts ends) where
  abbrev start : ℕ → ℕ → Act → ℕ
  start k i x = start_by depth vertices xs ends k i x

  abbrev when : ℕ → ℕ → Act → Span
  when k i x = span (start k i x) (ends k i)

  in_order : (k i j : ℕ) (x y : Act) → slice_get xs i ≡ Some x → slice_get xs j ≡ Some y → same_line x y ≡ true
      → (j < i → ends k j ≤ start k i x) × (ends k j ≤ start (suc k) i x)
  in_order = lines_are_in_order depth vertices xs lasts ends are

  -- from one reaction to any later one
  across : (k n i j : ℕ) (x y : Act) → k < n → slice_get xs i ≡ Some x → slice_get xs j ≡ Some y → same_line x y ≡ true → ends k j ≤ start n i x
  across k zero i j x y l e h same = absurd (omega arith)
  across k (suc m) i j x y l e h same = elim (cases_eq k m) [
    | inl z ↦ (let b = (in_order m i j x y e h same).1 in let c = ap (λ (q : ℕ). ends q j) z in omega arith)
    | inr z ↦ (
        let before = across k m i j x y (omega arith) e h same in
        let own = are m i x e in
        let next = (in_order m i i x x e e (same_as_itself x)).1 in
        omega arith)
  ]

  apart : (n i j : ℕ) (d e : Dated) → i < j → slice_get (dated_in when n xs) i ≡ Some d → slice_get (dated_in when n xs) j ≡ Some e → same_line e.act d.act ≡ true → d.when.end ≤ e.when.start
  apart zero i j d e l h k same = absurd cc
  apart (suc n) i j d e l h k same =
      by (λ p q. apart n i j d e l p q same) (side (dated_in when n xs) (dated_from when n 0 xs) i d h) (side (dated_in when n xs) (dated_from when n 0 xs) j e k)
    where
      ended : (r : ℕ) (p q : ℕ) (m : ℕ) → IsDated when xs r p d → IsDated when xs m q e → ends r p ≤ start m q e.act → d.when.end ≤ e.when.start
      ended r p q m a b le =
          let first = ap (λ (w : Span). w.end) a.when_is in
          let second = ap (λ (w : Span). w.start) b.when_is in
          omega arith

      both : (p q : ℕ) → p < q → IsDated when xs n p d → IsDated when xs n q e → d.when.end ≤ e.when.start
      both p q less a b = ended n p q n a b ((in_order n q p e.act d.act b.there a.there same).0 less)

      before : Placed when xs n d → (q : ℕ) → IsDated when xs n q e → d.when.end ≤ e.when.start
      before a q b = ended a.reaction a.place q n a.is b (across a.reaction n q a.place e.act d.act a.less b.there a.is.there same)

      by : (slice_get (dated_in when n xs) i ≡ Some d → slice_get (dated_in when n xs) j ≡ Some e → d.when.end ≤ e.when.start)
          → (slice_get (dated_in when n xs) i ≡ Some d) ⊎ ((p : ℕ) × (i ≡ length (dated_in when n xs) + p) × (slice_get (dated_from when n 0 xs) p ≡ Some d))
          → (slice_get (dated_in when n xs) j ≡ Some e) ⊎ ((q : ℕ) × (j ≡ length (dated_in when n xs) + q) × (slice_get (dated_from when n 0 xs) q ≡ Some e))
          → d.when.end ≤ e.when.start
      by rest (inl a) (inl b) = rest a b
      by rest (inl a) (inr b) = before (placed when n xs i d a) b.0 (reaction_at when n xs b.0 e b.2)
      by rest (inr a) (inr b) = (let x = a.1 in let y = b.1 in both a.0 b.0 (omega arith) (reaction_at when n xs a.0 d a.2) (reaction_at when n xs b.0 e b.2))
      by rest (inr a) (inl b) = (let x = a.1 in let y = slice_get_within (dated_in when n xs) j e b in absurd (omega arith))

pub dates_one_after_another : DatesOneAfterAnother
dates_one_after_another g a stated s ticks archi deep valid i j x y less d e same =
    let xs = acts s in
    let lasts = lasting g.vertices xs ticks in
    let ends = dates a.depth g.vertices xs lasts in
    let few = leb-true 1 a.depth (and_parts (nat_le 1 a.depth) (nat_le a.depth 4) deep).0 in
    let are : AreDates a.depth g.vertices xs lasts ends = (dates_are_one a.depth g.vertices xs lasts few).0 in
    let all = all_dates g a s ticks in
    let f = λ (z : Dated). slice_of g.vertices a.operators (moment_of z) z.act in
    let p = mapped f all i x (ap (λ (l : List Slice). slice_get l i) (sym (each_date_once g a s all)) ∙ d) in
    let q = mapped f all j y (ap (λ (l : List Slice). slice_get l j) (sym (each_date_once g a s all)) ∙ e) in
    let when = λ (k m : ℕ) (z : Act). span (start_by a.depth g.vertices xs ends k m z) (ends k m) in
    let here = placed when (length ticks) xs i p.it p.stands in
    let there = placed when (length ticks) xs j q.it q.stands in
    let lanes : lane_of p.it.act ≡ lane_of q.it.act = ap (λ (z : Slice). z.lane) p.is ∙ same ∙ ap (λ (z : Slice). z.lane) (sym q.is) in
    let line = in_line g a stated (few_operators a archi) (take here.place xs) (take there.place xs) p.it.act q.it.act
    (act_at g a stated s valid here.place p.it.act here.is.there) (act_at g a stated s valid there.place q.it.act there.is.there) lanes in
    let r = apart a.depth g.vertices xs lasts ends are (length ticks) i j p.it q.it less p.stands q.stands line in
    let first = ap (λ (z : Slice). z.moment.end) p.is in
    let second = ap (λ (z : Slice). z.moment.start) q.is in
    omega arith
