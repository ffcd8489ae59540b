-- The dates are no later than the schedule says, and in the first reaction of a tight one they are its own.
use Rattle.std.proofs.Common.{◌≡◌, ℕ, zero, suc, ◌+◌, ◌*◌, ◌<◌, ◌≤◌, ◌⊎◌, Bool, true, false, ◌&&◌, ◌||◌, not, List, [], ◌∷◌, ◌++◌, take, map, Option, Some, None, refl, sym, ap, inl, inr, arith, ◌∙◌}
use Rattle.std.specs.Prelude.{slice_get, nat_le, ◌↔◌, IsTrue}
use Rattle.std.specs.List.{list_any}
use Rattle.std.proofs.lemmas.Bool.{false≢true, and_parts, eqb-true, leb-true, lt-leb}
use Rattle.std.proofs.lemmas.Nat.{row_fits}
use Rattle.std.proofs.lemmas.Option.{same_Some}
use Rattle.std.proofs.lemmas.List.{append-nil}
use Rattle.sequence_build_laws.specs.Graph.{Graph, len_of}
use Rattle.sequence_build_laws.specs.declared.Medium.{Medium}
use Rattle.sequence_build_laws.specs.Archi.{Architecture, stands_at}
use Rattle.sequence_build_laws.specs.declared.Schedule.{Schedule}
use Rattle.sequence_build_laws.specs.Acts.{Act, carry, run, acts, start_of, end_of, is_over, is_on, runs, Copy, copy, same_copy, read_by, made_by, latest, length_of}
use Rattle.sequence_build_laws.specs.Tight.{same_line, reads_from, is_tight}
use Rattle.sequence_build_laws.specs.ScheduleValid.{is_valid, is_held, is_there, have_ended, lasts, is_carried}
use Rattle.sequence_build_laws.proofs.Copies.{copy_is}
use Rattle.sequence_build_laws.proofs.Reading.{any_of}
use Rattle.sequence_build_laws.proofs.Tight.{tight_at, tight_where}
use Rattle.sequence_build_laws.proofs.Lists.{all_at, get_take, take_get}
use Rattle.sequence_build_laws.proofs.Works.{right_at, one_maker}
use Rattle.self_timed.specs.Dates.{Event, with_act, in_line, brought, emptied, needs, start_by, AreDates}
use Rattle.self_timed.specs.Laws.{NoneLonger, FirstAsStated}
use Rattle.self_timed.proofs.Charted.{chart_end, charted}
use Rattle.self_timed.proofs.Needs.{needs_are, greatest_below, greatest_same}
use Rattle.self_timed.proofs.Ranks.{by_act, by_reaction}
use Rattle.syn_base.specs.Numbers.{greatest}

latest_at : (xs : List Act) (i : ℕ) (x : Act) → slice_get xs i ≡ Some x → end_of x ≤ latest xs
latest_at [] i x e = absurd cc
latest_at (y ∷ xs) zero x e = let z = ap end_of (same_Some y x e) in omega arith
latest_at (y ∷ xs) (suc i) x e = let z = latest_at xs i x e in omega arith

module _ (g : Graph) (a : Architecture) (ticks : ℕ → ℕ → Option ℕ) (s : Schedule) (valid : is_valid g a ticks s ≡ true) where
  -- what is said of the times of an act
  pub record Timed (i : ℕ) (x : Act) : Type 0 where
    pub lasts : start_of x ≤ end_of x
    pub free : (y : Act) → same_line x y ≡ true → (j : ℕ) → j < i → slice_get (acts s) j ≡ Some y → end_of y ≤ start_of x

  ended : (test : Act → Bool) (before : List Act) (date : ℕ) → have_ended test before date ≡ true → (j : ℕ) (y : Act) → slice_get before j ≡ Some y → test y ≡ true → end_of y ≤ date
  ended test before date h j y e t = by (test y) t (all_at (λ y. not (test y) || nat_le (end_of y) date) before h j y e)
    where
      by : (b : Bool) → b ≡ true → (not b || nat_le (end_of y) date) ≡ true → end_of y ≤ date
      by true u h = leb-true (end_of y) date h
      by false u h = absurd (false≢true u)

  timed : (i : ℕ) (x : Act) → slice_get (acts s) i ≡ Some x → Timed i x
  timed i (carry t) e =
      let parts = and_parts (is_carried (slice_get a.media t.medium) (len_of g.vertices t.source) t
      && have_ended (is_over t.medium) (take i (acts s)) t.start) (not (is_there g a ticks (take i (acts s)) (copy t.to t.source)))
      (right_at g a ticks s valid i (carry t) e).act in
      let first = and_parts (is_carried (slice_get a.media t.medium) (len_of g.vertices t.source) t) (have_ended (is_over t.medium) (take i (acts s)) t.start) parts.0 in
      record { lasts = long (slice_get a.media t.medium) first.0; free = free first.1 }
    where
      long : (o : Option Medium) → is_carried o (len_of g.vertices t.source) t ≡ true → t.start ≤ t.end
      long None h = absurd (false≢true h)
      long (Some m) h = let z = eqb-true t.end (t.start + (m.fixed + len_of g.vertices t.source * m.per)) (and_parts (stands_at m t.from && stands_at m t.to) _ h).1 in omega arith

      free : have_ended (is_over t.medium) (take i (acts s)) t.start ≡ true → (y : Act) → same_line (carry t) y ≡ true → (j : ℕ) → j < i → slice_get (acts s) j ≡ Some y → end_of y ≤ t.start
      free h y l j less q = ended (is_over t.medium) (take i (acts s)) t.start h j y (take_get (acts s) i j y less q) l
  timed i (run d) e =
      let r = (right_at g a ticks s valid i (run d) e).act in
      let free_now = and_parts _ (have_ended (is_on d.operator) (take i (acts s)) d.start) r in
      let new = and_parts _ (not (list_any (runs d.op) (take i (acts s)))) free_now.0 in
      let timing = and_parts _ (lasts (ticks d.op d.operator) d.start d.end) new.0 in
      record { lasts = long (ticks d.op d.operator) timing.1; free = free free_now.1 }
    where
      long : (o : Option ℕ) → lasts o d.start d.end ≡ true → d.start ≤ d.end
      long None h = absurd (false≢true h)
      long (Some n) h = let z = eqb-true d.end (d.start + n) h in omega arith

      free : have_ended (is_on d.operator) (take i (acts s)) d.start ≡ true → (y : Act) → same_line (run d) y ≡ true → (j : ℕ) → j < i → slice_get (acts s) j ≡ Some y → end_of y ≤ d.start
      free h y l j less q = ended (is_on d.operator) (take i (acts s)) d.start h j y (take_get (acts s) i j y less q) l

  -- what makes what it reads has ended
  made_before : (i : ℕ) (x : Act) → slice_get (acts s) i ≡ Some x → (j : ℕ) (y : Act) → slice_get (acts s) j ≡ Some y → reads_from g.vertices x y ≡ true → end_of y ≤ start_of x
  made_before i x e j y q h =
      let c = any_of (λ c. list_any (same_copy c) (made_by g.vertices y)) (read_by g.vertices x) h in
      let m = any_of (same_copy c.1) (made_by g.vertices y) c.3 in
      let held = all_at (is_held g a ticks (take i (acts s)) (start_of x)) (read_by g.vertices x) (right_at g a ticks s valid i x e).held c.0 c.1 c.2 in
      let z = any_of (λ z. nat_le (end_of z) (start_of x) && list_any (same_copy c.1) (made_by g.vertices z)) (take i (acts s)) held in
      let t = get_take (acts s) i z.0 z.1 z.2 in
      let parts = and_parts (nat_le (end_of z.1) (start_of x)) (list_any (same_copy c.1) (made_by g.vertices z.1)) z.3 in
      let n = any_of (same_copy c.1) (made_by g.vertices z.1) parts.1 in
      let first : slice_get (made_by g.vertices y) m.0 ≡ Some c.1 = m.2 ∙ ap (λ (w : Copy). Some w) (sym (copy_is c.1 m.1 m.3)) in
      let second : slice_get (made_by g.vertices z.1) n.0 ≡ Some c.1 = n.2 ∙ ap (λ (w : Copy). Some w) (sym (copy_is c.1 n.1 n.3)) in
      let one = one_maker g a ticks s valid j z.0 m.0 n.0 y z.1 c.1 q t.1 first second in
      let same = ap end_of (same_Some y z.1 (sym q ∙ ap (slice_get (acts s)) one.0 ∙ t.1)) in
      let l = leb-true (end_of z.1) (start_of x) parts.0 in
      omega arith

  -- what precedes it in the same reaction has ended
  pub ended_before : (i : ℕ) (x : Act) → slice_get (acts s) i ≡ Some x → (j : ℕ) (y : Act) → j < i → slice_get (acts s) j ≡ Some y
      → (same_line x y ≡ true) ⊎ (reads_from g.vertices x y ≡ true) → end_of y ≤ start_of x
  ended_before i x e j y l q (inl h) = (timed i x e).free y h j l q
  ended_before i x e j y l q (inr h) = made_before i x e j y q h

  module _ (depth : ℕ) (deep : 1 ≤ depth) (lasts_for ends : ℕ → ℕ → ℕ) (are : AreDates depth g.vertices (acts s) lasts_for ends) where
    pub no_later : NoneLonger g s lasts_for → (k i : ℕ) (x : Act) → slice_get (acts s) i ≡ Some x → ends k i ≤ k * length_of s + end_of x
    no_later short = by_reaction (λ k i. (x : Act) → slice_get (acts s) i ≡ Some x → ends k i ≤ k * length_of s + end_of x) step
      where
        step : (k i : ℕ) → ((j h : ℕ) → j < k → (x : Act) → slice_get (acts s) h ≡ Some x → ends j h ≤ j * length_of s + end_of x)
            → ((h : ℕ) → h < i → (x : Act) → slice_get (acts s) h ≡ Some x → ends k h ≤ k * length_of s + end_of x)
            → (x : Act) → slice_get (acts s) i ≡ Some x → ends k i ≤ k * length_of s + end_of x
        step k i past now x e =
            let start = greatest_below (λ d. ends d.reaction d.act) (needs depth g.vertices (acts s) k i x) (k * length_of s + start_of x) each in
            let is = are k i x e in
            let long = short k i x e in
            let order = (timed i x e).lasts in
            omega arith
          where
            each : (r : ℕ) (d : Event) → slice_get (needs depth g.vertices (acts s) k i x) r ≡ Some d → ends d.reaction d.act ≤ k * length_of s + start_of x
            each r d m = elim (needs_are depth deep g.vertices (acts s) k i x r d m) [
              | inl n ↦ (let same = ap (λ (j : ℕ). ends j d.act) n.reaction in let bound = now d.act n.less n.it n.stands in let l = ended_before i x e d.act n.it n.less n.stands n.how in omega arith)
              | inr p ↦ (let fits = row_fits d.reaction (length_of s) k (length_of s) p.less (omega arith) in
                  let bound = past d.reaction d.act p.less p.it p.stands in let l = latest_at (acts s) d.act p.it p.stands in omega arith)
            ]

    -- in the first reaction nothing of an earlier one precedes
    first_needs : (i : ℕ) (x : Act) → needs depth g.vertices (acts s) 0 i x ≡ in_line (acts s) 0 i x ++ brought g.vertices (acts s) 0 i x
    first_needs i x = ap (λ (l : List Event). in_line (acts s) 0 i x ++ l) (ap (λ (l : List Event). brought g.vertices (acts s) 0 i x ++ l) none ∙ append-nil (brought g.vertices (acts s) 0 i x))
      where
        none : emptied depth g.vertices (acts s) 0 x ≡ []
        none = rw (lt-leb depth 0 deep) refl

    abbrev tight_start : ℕ → Act → ℕ
    tight_start i x = greatest (map (λ (e : Event). chart_end (acts s) e.act) (in_line (acts s) 0 i x ++ brought g.vertices (acts s) 0 i x))

    -- where the acts before it end as stated, it starts as soon as it can in the chart
    same_start : (i : ℕ) (x : Act) → ((h : ℕ) → h < i → (y : Act) → slice_get (acts s) h ≡ Some y → ends 0 h ≡ end_of y) → start_by depth g.vertices (acts s) ends 0 i x ≡ tight_start i x
    same_start i x now = greatest_same (λ d. ends d.reaction d.act) (λ d. chart_end (acts s) d.act)
        (needs depth g.vertices (acts s) 0 i x) each ∙ ap (λ (l : List Event). greatest (map (λ e. chart_end (acts s) e.act) l)) (first_needs i x)
      where
        each : (r : ℕ) (d : Event) → slice_get (needs depth g.vertices (acts s) 0 i x) r ≡ Some d → ends d.reaction d.act ≡ chart_end (acts s) d.act
        each r d m = elim (needs_are depth deep g.vertices (acts s) 0 i x r d m) [
          | inl n ↦ ap (λ (j : ℕ). ends j d.act) n.reaction ∙ now d.act n.less n.it n.stands ∙ sym (ap (λ (o : Option Act). with_act o end_of) n.stands)
          | inr p ↦ (let less = p.less in absurd (omega arith))
        ]

    pub first_is_stated : FirstAsStated g s lasts_for
        → IsTrue (is_tight g s) ↔ ((i : ℕ) (x : Act) → slice_get (acts s) i ≡ Some x
        → (start_by depth g.vertices (acts s) ends 0 i x ≡ start_of x) × (ends 0 i ≡ end_of x))
    first_is_stated first = (forth, back)
      where
        forth : is_tight g s ≡ true → (i : ℕ) (x : Act) → slice_get (acts s) i ≡ Some x → (start_by depth g.vertices (acts s) ends 0 i x ≡ start_of x) × (ends 0 i ≡ end_of x)
        forth tight i x e = (starts i x e (λ h l y q. all h y q), all i x e)
          where
            starts : (i : ℕ) (x : Act) → slice_get (acts s) i ≡ Some x
                → ((h : ℕ) → h < i → (y : Act) → slice_get (acts s) h ≡ Some y → ends 0 h ≡ end_of y)
                → start_by depth g.vertices (acts s) ends 0 i x ≡ start_of x
            starts i x e now = same_start i x now ∙ charted g.vertices (acts s) i x ∙ sym (tight_at g.vertices [] (acts s) tight i x e)

            step : (i : ℕ) → ((h : ℕ) → h < i → (y : Act) → slice_get (acts s) h ≡ Some y → ends 0 h ≡ end_of y) → (x : Act) → slice_get (acts s) i ≡ Some x → ends 0 i ≡ end_of x
            step i now x e =
                let start = starts i x e now in
                let is = are 0 i x e in
                let long = first i x e in
                let order = (timed i x e).lasts in
                omega arith

            all : (i : ℕ) (x : Act) → slice_get (acts s) i ≡ Some x → ends 0 i ≡ end_of x
            all = by_act (λ i. (x : Act) → slice_get (acts s) i ≡ Some x → ends 0 i ≡ end_of x) step

        back : ((i : ℕ) (x : Act) → slice_get (acts s) i ≡ Some x → (start_by depth g.vertices (acts s) ends 0 i x ≡ start_of x) × (ends 0 i ≡ end_of x)) → is_tight g s ≡ true
        back h = tight_where g.vertices [] (acts s) (λ i x e. sym (h i x e).0 ∙ same_start i x (λ j l y q. (h j y q).1) ∙ charted g.vertices (acts s) i x)
