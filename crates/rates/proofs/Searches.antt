-- The search over a table: what holds of the offsets and the arcs so far, how one more arc is looked at, and how it ends.
use Rattle.std.proofs.Common.{
  ◌≡◌,
  ℕ,
  zero,
  suc,
  ◌+◌,
  ◌*◌,
  ◌^◌,
  ◌<◌,
  ◌≤◌,
  true,
  ◌&&◌,
  List,
  [],
  ◌∷◌,
  ◌++◌,
  length,
  map,
  reverse,
  replicate,
  Option,
  Some,
  None,
  refl,
  sym,
  ap,
  ap₂,
  subst,
  inl,
  inr,
  arith,
  ◌∙◌,
  eq-eqb,
  append_assoc,
  length-append,
}
use Rattle.std.specs.Prelude.{slice_get, slice_set, nat_le, ◌==◌}
use Rattle.std.specs.List.{list_all}
use Rattle.std.proofs.lemmas.Bool.{cases_lt, le-leb}
use Rattle.std.proofs.lemmas.List.{length-set, get_or-set_same, get_or-set_other, length-replicate}
use Rattle.std.proofs.lemmas.Grind.{reverse_onto}
use Rattle.std.proofs.lemmas.Option.{same_Some}
use Rattle.std.proofs.lemmas.List.Sums.{sum_by-cons}
use Rattle.self_timed.proofs.Lists.{from_append, from_map}
use Rattle.self_timed.proofs.Reading.{any_at}
use Rattle.rates.specs.declared.table.Arc.{Arc}
use Rattle.rates.specs.declared.table.Rate.{Rate}
use Rattle.rates.specs.declared.search.Lacking.{Lacking}
use Rattle.rates.specs.Rates.{begin_or, has_room, lags, length_over, same_arc}
use Rattle.rates.specs.Tables.{at, is_in_row, is_way_in, row_of, rows_fit, rows_fit_from}
use Rattle.rates.specs.Search.{AreFirst, Avoids, Back, Closes, HaveRoomFrom, IsInRow, IsOver, IsRooted, IsSearchable, Lacks, Leads, Misses, acts_back, given_at, turned}
use Rattle.rates.proofs.Exceeded.{left, left_less}
use Rattle.rates.proofs.Searching.{IsClosed, IsSearch, IsWay, closed, offsets_low, raised, short, turned_size}
use Rattle.rates.proofs.Tested.{both}

-- no offset is above this
abbrev pub cap : List (List Arc) → List ℕ → Rate → ℕ
cap table long rate = rate.reactions * (length table * 2 ^ 30)

pub record IsSearchOf (table : List (List Arc)) (long : List ℕ) (rate : Rate) (offsets : List ℕ) (given : List (Option Arc)) : Type 0 where
  pub offsets_size : length offsets ≡ length table
  pub given_size : length given ≡ length table
  pub search : IsSearch (length table) (IsInRow table) (at long) rate.ticks rate.reactions (at offsets) (given_at given)

none_given : (n i : ℕ) → given_at (replicate n None) i ≡ None
none_given zero i = refl
none_given (suc n) zero = refl
none_given (suc n) (suc i) = none_given n i

pub started : (table : List (List Arc)) (long : List ℕ) (rate : Rate) (offsets : List ℕ) (given : List (Option Arc))
    → AreFirst long rate.reactions (length table) offsets → given ≡ replicate (length table) None
    → IsSearchOf table long rate offsets given
started table long rate offsets given f e = record {
  offsets_size = f.size;
  given_size = ap (λ (g : List (Option Arc)). length g) e ∙ length-replicate (length table) None;
  search = record {
    low = λ i l. (let z = f.each i l in omega arith);
    first = λ i l q. f.each i l;
    linked = λ i a l q. (let z : None ≡ Some a = sym (none i) ∙ q in absurd cc);
    rooted = λ i l. ([], none i);
  };
}
  where
    none : (i : ℕ) → given_at given i ≡ None
    none i = ap (λ (g : List (Option Arc)). given_at g i) e ∙ none_given (length table) i

same_arc_self : (a : Arc) → same_arc a a ≡ true
same_arc_self a = both (a.act == a.act) (a.lag == a.lag) (eq-eqb a.act a.act refl) (eq-eqb a.lag a.lag refl)

module _ (table : List (List Arc)) (long : List ℕ) (rate : Rate) (s : IsSearchable table long) where
  way_in : (i : ℕ) (way : List Arc) → IsWay (length table) (IsInRow table) (at long) rate.ticks rate.reactions i way → is_way_in table i way ≡ true
  way_in i [] h = refl
  way_in i (a ∷ way) h =
      both (is_in_row table (begin_or i way) a) (is_way_in table i way) (any_at (same_arc a) (row_of table (begin_or i way)) h.0.place a h.0.is (same_arc_self a)) (way_in i way h.1)

  all_up : (i : ℕ) (a : Arc) (way : List Arc) → IsWay (length table) (IsInRow table) (at long) rate.ticks rate.reactions i (a ∷ way) → lags (a ∷ way) ≡ 0 → a.act < i
  all_up i a [] h z = let q = sum_by-cons (λ (c : Arc). c.lag) a [] in s.up a i h.0 (omega arith)
  all_up i a (b ∷ way) h z =
      let q = sum_by-cons (λ (c : Arc). c.lag) a (b ∷ way) in
      let first = s.up a b.act h.0 (omega arith) in
      let rest = all_up i b way h.1 (omega arith) in
      omega arith

  later : (i : ℕ) (way : List Arc) → begin_or i way ≡ i → IsWay (length table) (IsInRow table) (at long) rate.ticks rate.reactions i way
      → rate.ticks * lags way < rate.reactions * length_over (at long) way → 0 < lags way
  later i [] b h l = absurd (omega arith)
  later i (a ∷ way) b h l = elim (cases_lt 0 (lags (a ∷ way))) [
    | inl z ↦ z
    | inr z ↦ (let less = all_up i a way h (omega arith) in absurd (omega arith))
  ]

  module _ (offsets : List ℕ) (given : List (Option Arc)) (now : IsSearchOf table long rate offsets given) where
    pub low : (i : ℕ) → i < length table → at offsets i ≤ cap table long rate
    low i l = offsets_low (length table) (IsInRow table) (at long) rate.ticks rate.reactions (at offsets) (given_at given) now.search (2 ^ 30) (λ j b. s.short j) i l

    pub rooted : (l : Lacking) → Lacks table long rate offsets l → IsRooted (given_at given) (length given) l.arc.act
    rooted l k =
        let there = s.there l.arc l.act k.is in
        let r = now.search.rooted l.arc.act there in
        let few = short (length table) (IsInRow table) (at long) rate.ticks rate.reactions (at offsets) (given_at given) now.search l.arc.act r.0 there r.1 in
        let size = now.given_size in
        record { way = r.0; back = r.1; short = omega arith }

    fits_from : (n : ℕ) (rows : List (List Arc)) → ((i j : ℕ) → j ≡ n + i → i < length rows → rate.reactions * at long j ≤ at offsets j)
        → ((i j : ℕ) → j ≡ n + i → i < length rows → list_all (has_room (at long) rate.ticks rate.reactions (at offsets) j) (row_of rows i) ≡ true)
        → rows_fit_from (at long) rate.ticks rate.reactions (at offsets) n rows ≡ true
    fits_from n [] f g = refl
    fits_from n (row ∷ rows) f g =
        let next : n + 1 ≡ suc n = omega arith in
        let here = le-leb (rate.reactions * at long n) (at offsets n) (f 0 n (omega arith) (omega arith)) in
        let room = g 0 n (omega arith) (omega arith) in
        let rest = fits_from (n + 1) rows (λ i j q l. f (suc i) j (omega arith) (omega arith)) (λ i j q l. g (suc i) j (omega arith) (omega arith)) in
        both (nat_le (rate.reactions * at long n) (at offsets n)
        && list_all (has_room (at long) rate.ticks rate.reactions (at offsets) n) row)
        (rows_fit_from (at long) rate.ticks rate.reactions (at offsets) (n + 1) rows)
        (both (nat_le (rate.reactions * at long n) (at offsets n)) (list_all (has_room (at long) rate.ticks rate.reactions (at offsets) n) row) here room) rest

    pub fits : HaveRoomFrom table long rate offsets 0 → rows_fit (at long) rate.ticks rate.reactions (at offsets) table ≡ true
    fits h = fits_from 0 table (λ i j q l. (let e : j ≡ i = omega arith in now.search.low j (omega arith)))
        (λ i j q l. (let e : j ≡ i = omega arith in ap (λ (k : ℕ). list_all (has_room (at long) rate.ticks rate.reactions (at offsets) k) (row_of table i)) e ∙ h i (omega arith) l))

    pub over : (l : Lacking) → Lacks table long rate offsets l → (cycle : List Arc) → Closes given l cycle → IsOver table long rate l.act cycle
    over l k cycle c = subst (λ (w : List Arc). IsOver table long rate l.act w) (sym c.is) it
      where
        z : IsClosed (length table) (IsInRow table) (at long) rate.ticks rate.reactions l.act (turned c.way (l.arc ∷ []))
        z = closed (length table) (IsInRow table) (at long) rate.ticks rate.reactions (at offsets) (given_at given) now.search l.act l.arc k.here (s.there l.arc l.act k.is) k.is k.over c.way c.leads

        it : IsOver table long rate l.act (turned c.way (l.arc ∷ []))
        it = record {
          begins = z.begins;
          leads = way_in l.act (turned c.way (l.arc ∷ [])) z.leads;
          longer = z.longer;
          later = later l.act (turned c.way (l.arc ∷ [])) z.begins z.leads z.longer;
          few = (let size = turned_size c.way (l.arc ∷ []) in let given_size = now.given_size in let less = c.short in omega arith);
        }

    module _ (l : Lacking) (k : Lacks table long rate offsets l) (m : Misses given l) (next : ℕ) (is : next + l.arc.lag * rate.ticks ≡ at offsets l.arc.act + rate.reactions * at long l.act) where
      offset_here : at (slice_set offsets l.act next) l.act ≡ next
      offset_here = get_or-set_same offsets l.act next 0 (let e = now.offsets_size in let h = k.here in omega arith)

      pub goes_on : IsSearchOf table long rate (slice_set offsets l.act next) (slice_set given l.act (Some l.arc))
      goes_on = record {
        offsets_size = length-set offsets l.act next ∙ now.offsets_size;
        given_size = length-set given l.act (Some l.arc) ∙ now.given_size;
        search = raised (length table) (IsInRow table) (at long) rate.ticks rate.reactions (at offsets)
            (given_at given) now.search l.act l.arc k.here (s.there l.arc l.act k.is) k.is k.over m.way m.back m.avoids
            (at (slice_set offsets l.act next)) (given_at (slice_set given l.act (Some l.arc)))
            (let e = offset_here in let h = is in omega arith) (λ j n. get_or-set_other offsets l.act j next 0 n)
            (get_or-set_same given l.act (Some l.arc) None (let e = now.given_size in let h = k.here in omega arith)) (λ j n. get_or-set_other given l.act j (Some l.arc) None n);
      }

    module _ (l : Lacking) (k : Lacks table long rate offsets l) (next : ℕ) (is : next + l.arc.lag * rate.ticks ≡ at offsets l.arc.act + rate.reactions * at long l.act)
        (given' : List (Option Arc)) (after : IsSearchOf table long rate (slice_set offsets l.act next) given') where
      here : at (slice_set offsets l.act next) l.act ≡ next
      here = get_or-set_same offsets l.act next 0 (let e = now.offsets_size in let h = k.here in omega arith)

      pub less : left (cap table long rate) (at (slice_set offsets l.act next)) (length table) < left (cap table long rate) (at offsets) (length table)
      less = left_less (cap table long rate) (at offsets) (at (slice_set offsets l.act next)) l.act (let e = here in let o = k.over in let q = is in omega arith)
          (low_after l.act k.here) (λ j n. get_or-set_other offsets l.act j next 0 n) (length table) k.here
        where
          low_after : (i : ℕ) → i < length table → at (slice_set offsets l.act next) i ≤ cap table long rate
          low_after i b = offsets_low (length table) (IsInRow table) (at long) rate.ticks rate.reactions
              (at (slice_set offsets l.act next)) (given_at given') after.search (2 ^ 30) (λ j h. s.short j) i b

-- The walk back from a lacking arc: the arcs so far, and the next one.
pub record IsWalk (given : List (Option Arc)) (lacking : Lacking) (k : ℕ) (way : List Arc) (arc : Arc) : Type 0 where
  pub whole : List Arc
  pub rest : List Arc
  pub back : Back (given_at given) lacking.arc.act whole
  pub short : length whole < length given
  pub parts : lacking.arc ∷ whole ≡ way ++ arc ∷ rest
  pub onward : Back (given_at given) arc.act rest
  pub count : length way ≡ k
  pub avoids : (p : ℕ) (a : Arc) → slice_get way p ≡ Some a → a.act ≡ lacking.act → ⊥

pub walk_begins : (given : List (Option Arc)) (lacking : Lacking) → IsRooted (given_at given) (length given) lacking.arc.act → IsWalk given lacking 0 [] lacking.arc
walk_begins given lacking r = record {
  whole = r.way;
  rest = r.way;
  back = r.back;
  short = r.short;
  parts = refl;
  onward = r.back;
  count = refl;
  avoids = λ p a e q. absurd cc;
}

onward_some : (given : ℕ → Option Arc) (i : ℕ) (rest : List Arc) (next : Arc) → Back given i rest → given i ≡ Some next → (more : List Arc) × (rest ≡ next ∷ more) × Back given next.act more
onward_some given i [] next h e = let z : None ≡ Some next = sym h ∙ e in absurd cc
onward_some given i (b ∷ more) next h e =
    let same : b ≡ next = same_Some b next (sym h.0 ∙ e) in
    (more, ap (λ (c : Arc). c ∷ more) same, subst (λ (c : Arc). Back given c.act more) same h.1)

onward_none : (given : ℕ → Option Arc) (i : ℕ) (rest : List Arc) → Back given i rest → given i ≡ None → rest ≡ []
onward_none given i [] h e = refl
onward_none given i (b ∷ more) h e = let z : None ≡ Some b = sym e ∙ h.0 in absurd cc

acts_are : (a : Arc) (w : List Arc) → acts_back a.act w ≡ map (λ (b : Arc). b.act) (a ∷ w)
acts_are a [] = refl
acts_are a (b ∷ w) = ap (λ (n : List ℕ). a.act ∷ n) (acts_are b w)

turned_is : (u after : List Arc) → turned u after ≡ reverse u ++ after
turned_is [] after = refl
turned_is (a ∷ u) after = turned_is u (a ∷ after) ∙ sym (append_assoc (reverse u) (a ∷ []) after) ∙ ap (λ (w : List Arc). w ++ after) (sym (reverse_onto u a []))

reverse_is : (a : Arc) (u : List Arc) → reverse (a ∷ u) ≡ turned u (a ∷ [])
reverse_is a u = reverse_onto u a [] ∙ sym (turned_is u (a ∷ []))

-- the first arcs of a way lead to the act of the last one of them
leads_part : (given : ℕ → Option Arc) (first arc : Arc) (whole way rest : List Arc) → first ∷ whole ≡ way ++ arc ∷ rest → Back given first.act whole
    → (u : List Arc) × (way ++ arc ∷ [] ≡ first ∷ u) × Leads given first.act u arc.act × (length u ≤ length whole)
leads_part given first arc whole [] rest e h =
    let same : first ≡ arc = cc in
    ([], ap (λ (a : Arc). a ∷ []) (sym same), ap (λ (a : Arc). a.act) same, omega arith)
leads_part given first arc [] (b ∷ way) rest e h =
    let size = ap (λ (w : List Arc). length w) e in
    let more = length-append way (arc ∷ rest) in
    absurd (omega arith)
leads_part given first arc (c ∷ whole) (b ∷ way) rest e h =
    let same : first ≡ b = cc in
    let others : c ∷ whole ≡ way ++ arc ∷ rest = cc in
    let r = leads_part given c arc whole way rest others h.1 in
    (c ∷ r.0, ap₂ (λ (a : Arc) (w : List Arc). a ∷ w) (sym same) r.1, (h.0, r.2), (let z = r.3 in omega arith))

module _ (given : List (Option Arc)) (lacking : Lacking) (k : ℕ) (way : List Arc) (arc : Arc) (w : IsWalk given lacking k way arc) where
  pub walk_goes_on : (next : Arc) → (arc.act ≡ lacking.act → ⊥) → given_at given arc.act ≡ Some next → IsWalk given lacking (k + 1) (way ++ arc ∷ []) next
  walk_goes_on next n e = by (onward_some (given_at given) arc.act w.rest next w.onward e)
    where
      avoids : (p : ℕ) (a : Arc) → slice_get (way ++ arc ∷ []) p ≡ Some a → a.act ≡ lacking.act → ⊥
      avoids p a q z = elim (from_append way (arc ∷ []) p a q) [
        | inl h ↦ w.avoids p a h z
        | inr h ↦ last h.at h.stands
      ]
        where
          last : (r : ℕ) → slice_get (arc ∷ []) r ≡ Some a → ⊥
          last zero f = n (ap (λ (b : Arc). b.act) (same_Some arc a f) ∙ z)
          last (suc r) f = absurd cc

      by : (more : List Arc) × (w.rest ≡ next ∷ more) × Back (given_at given) next.act more → IsWalk given lacking (k + 1) (way ++ arc ∷ []) next
      by r = record {
        whole = w.whole;
        rest = r.0;
        back = w.back;
        short = w.short;
        parts = w.parts ∙ ap (λ (v : List Arc). way ++ arc ∷ v) r.1 ∙ sym (append_assoc way (arc ∷ []) (next ∷ r.0));
        onward = r.2;
        count = length-append way (arc ∷ []) ∙ (let z = w.count in omega arith);
        avoids = avoids;
      }

  pub walk_closes : arc.act ≡ lacking.act → Closes given lacking (reverse (way ++ arc ∷ []))
  walk_closes e =
      let r = leads_part (given_at given) lacking.arc arc w.whole way w.rest w.parts w.back in
      let few = r.3 in
      let less = w.short in
      record {
        way = r.0;
        leads = subst (λ (i : ℕ). Leads (given_at given) lacking.arc.act r.0 i) e r.2;
        short = omega arith;
        is = ap (λ (v : List Arc). reverse v) r.1 ∙ reverse_is lacking.arc r.0;
      }

  pub walk_misses : (arc.act ≡ lacking.act → ⊥) → given_at given arc.act ≡ None → Misses given lacking
  walk_misses n e = record { way = w.whole; back = w.back; avoids = avoids }
    where
      all : lacking.arc ∷ w.whole ≡ way ++ arc ∷ []
      all = w.parts ∙ ap (λ (v : List Arc). way ++ arc ∷ v) (onward_none (given_at given) arc.act w.rest w.onward e)

      last : (r : ℕ) (a : Arc) → slice_get (arc ∷ []) r ≡ Some a → a.act ≡ lacking.act → ⊥
      last zero a f z = n (ap (λ (b : Arc). b.act) (same_Some arc a f) ∙ z)
      last (suc r) a f z = absurd cc

      none : (p : ℕ) (a : Arc) → slice_get (way ++ arc ∷ []) p ≡ Some a → a.act ≡ lacking.act → ⊥
      none p a q z = elim (from_append way (arc ∷ []) p a q) [
        | inl h ↦ w.avoids p a h z
        | inr h ↦ last h.at a h.stands z
      ]

      avoids : Avoids lacking.act lacking.arc.act w.whole
      avoids p q =
          let m = from_map (λ (b : Arc). b.act) (lacking.arc ∷ w.whole) p lacking.act (ap (λ (v : List ℕ). slice_get v p) (sym (acts_are lacking.arc w.whole)) ∙ q) in
          none p m.it (ap (λ (v : List Arc). slice_get v p) (sym all) ∙ m.stands) m.is

  -- it does not go on for so long
  pub walk_ends : k ≡ length given → ⊥
  walk_ends e =
      let size = ap (λ (v : List Arc). length v) w.parts in
      let sum = length-append way (arc ∷ w.rest) in
      let count = w.count in
      let less = w.short in
      omega arith
