-- Dates stay low: few acts, each of which lasts no longer than a bound.
use Rattle.std.proofs.Common.{◌≡◌, ℕ, zero, suc, ◌+◌, ◌*◌, ◌^◌, ◌<◌, ◌≤◌, true, ◌&&◌, not, List, [], ◌∷◌, length, map, take, Option, Some, None, refl, sym, ap, inl, inr, arith, ◌∙◌}
use Rattle.std.specs.Prelude.{slice_get, slice_index_or, nat_le, nat_lt, ◌-◌, All, IfSome}
use Rattle.std.specs.List.{list_all, list_any}
use Rattle.std.proofs.lemmas.Bool.{false≢true, and_parts, eqb-true, leb-true}
use Rattle.std.proofs.lemmas.Nat.{mul-le, row_fits}
use Rattle.std.proofs.lemmas.List.{length-map}
use Rattle.std.proofs.lemmas.List.Elements.{All-nil, All-head, All-tail}
use Rattle.std.proofs.lemmas.Option.{same_Some, slice_get_within}
use Rattle.sequence_build_laws.specs.declared.Source.{Source}
use Rattle.sequence_build_laws.specs.declared.Vertex.{Vertex}
use Rattle.sequence_build_laws.specs.Graph.{Graph, with_vertex, len_of, lens_of}
use Rattle.sequence_build_laws.specs.FlatValid.{is_flat, is_path, is_len, is_guard, fits, has_twin}
use Rattle.sequence_build_laws.proofs.Facts.{vertex_valid}
use Rattle.sequence_build_laws.specs.declared.Medium.{Medium}
use Rattle.sequence_build_laws.specs.Archi.{Architecture, is_archi, is_medium, are_bounded, are_distinct, are_joined, names_of, may_stand, ascends_from, stands_at}
use Rattle.sequence_build_laws.specs.Table.{Table, IsRow, entry_in, row_in}
use Rattle.sequence_build_laws.specs.declared.Transfer.{Transfer}
use Rattle.sequence_build_laws.specs.declared.Schedule.{Schedule}
use Rattle.sequence_build_laws.specs.Acts.{Act, carry, run, acts, Copy, copy, is_over, is_on, runs}
use Rattle.sequence_build_laws.specs.ScheduleValid.{is_valid, is_carried, have_ended, is_there, lasts}
use Rattle.sequence_build_laws.proofs.Decided.{few_operations}
use Rattle.sequence_build_laws.proofs.Copies.{few_outputs}
use Rattle.sequence_build_laws.proofs.Lists.{from_map}
use Rattle.sequence_build_laws.proofs.Works.{right_at, one_maker, one_run, of_run}
use Rattle.self_timed.specs.Dates.{Event, needs, AreDates}
use Rattle.self_timed.specs.Entries.{stated}
use Rattle.self_timed.proofs.Needs.{needs_are, greatest_below}
use Rattle.self_timed.proofs.Ranks.{by_reaction}
use Rattle.self_timed.proofs.Counted.{pigeons}
use Rattle.self_timed.proofs.Held.{held_made}

-- where no act lasts longer than a bound, it ends by the bound times the number of events up to its own
module _ (depth : ℕ) (deep : 1 ≤ depth) (vertices : List Vertex) (xs : List Act) (long ends : ℕ → ℕ → ℕ) (are : AreDates depth vertices xs long ends)
    (most : ℕ) (short : (k i : ℕ) (x : Act) → slice_get xs i ≡ Some x → long k i ≤ most) where
  Ends : ℕ → ℕ → Type 0
  Ends k i = (x : Act) → slice_get xs i ≡ Some x → ends k i ≤ (k * length xs + i) * most + most

  pub ends_low : (k i : ℕ) → (x : Act) → slice_get xs i ≡ Some x → ends k i ≤ (k * length xs + i) * most + most
  ends_low = by_reaction (λ k i. (x : Act) → slice_get xs i ≡ Some x → ends k i ≤ (k * length xs + i) * most + most) step
    where
      step : (k i : ℕ) → ((j h : ℕ) → j < k → (x : Act) → slice_get xs h ≡ Some x → ends j h ≤ (j * length xs + h) * most + most)
          → ((h : ℕ) → h < i → (x : Act) → slice_get xs h ≡ Some x → ends k h ≤ (k * length xs + h) * most + most)
          → (x : Act) → slice_get xs i ≡ Some x → ends k i ≤ (k * length xs + i) * most + most
      step k i past now x e =
          let start = greatest_below (λ d. ends d.reaction d.act) (needs depth vertices xs k i x) ((k * length xs + i) * most) each in
          let is = are k i x e in
          let last = short k i x e in
          omega arith
        where
          each : (r : ℕ) (d : Event) → slice_get (needs depth vertices xs k i x) r ≡ Some d → ends d.reaction d.act ≤ (k * length xs + i) * most
          each r d m = elim (needs_are depth deep vertices xs k i x r d m) [
            | inl n ↦ (
                let same = ap (λ (j : ℕ). ends j d.act) n.reaction in
                let bound = now d.act n.less n.it n.stands in
                let less = n.less in
                let fits : (k * length xs + d.act) * most + most ≤ (k * length xs + i) * most = row_fits (k * length xs + d.act) most (k * length xs + i) most (omega arith) (omega arith) in
                omega arith)
            | inr p ↦ (
                let bound = past d.reaction d.act p.less p.it p.stands in
                let row = row_fits d.reaction (length xs) k (length xs) p.less (omega arith) in
                let less = slice_get_within xs d.act p.it p.stands in
                let fits : (d.reaction * length xs + d.act) * most + most
                ≤ (k * length xs + i) * most = row_fits (d.reaction * length xs + d.act) most (k * length xs + i) most (omega arith) (omega arith) in
                omega arith)
          ]

-- the entries of a table of durations
entry_low : (t : Table) → All (IsRow t.operators) t.rows → (v o n : ℕ) → entry_in t v o ≡ Some n → n ≤ 1000000000
entry_low t rows v o n e = among (row_in t v) (bounded t.rows v rows) o e
  where
    bounded : (rs : List (List (Option ℕ))) (v : ℕ) → All (IsRow t.operators) rs → All (λ e. IfSome e (λ t. t ≤ 1000000000)) (slice_index_or rs v [])
    bounded [] v h = All-nil (λ e. IfSome e (λ t. t ≤ 1000000000))
    bounded (r ∷ rs) zero h = (All-head (IsRow t.operators) r rs h).bounded
    bounded (r ∷ rs) (suc v) h = bounded rs v (All-tail (IsRow t.operators) r rs h)

    one : (x : Option ℕ) → IfSome x (λ t. t ≤ 1000000000) → x ≡ Some n → n ≤ 1000000000
    one None h e = absurd cc
    one (Some m) h e = let z = same_Some m n e in omega arith

    among : (es : List (Option ℕ)) → All (λ e. IfSome e (λ t. t ≤ 1000000000)) es → (o : ℕ) → slice_index_or es o None ≡ Some n → n ≤ 1000000000
    among [] h o e = absurd cc
    among (x ∷ es) h zero e = one x (All-head (λ e. IfSome e (λ t. t ≤ 1000000000)) x es h) e
    among (x ∷ es) h (suc o) e = among es (All-tail (λ e. IfSome e (λ t. t ≤ 1000000000)) x es h) o e

-- a source has at most 64 elements
len_low : (g : Graph) → is_flat g ≡ true → (x : Source) → len_of g.vertices x ≤ 64
len_low g flat x = by (slice_get g.vertices x.vertex) refl
  where
    among : (ns : List ℕ) (k : ℕ) → list_all is_len ns ≡ true → slice_index_or ns k 0 ≤ 64
    among [] k h = omega arith
    among (n ∷ ns) zero h = leb-true n 64 (and_parts (nat_le 1 n) (nat_le n 64) (and_parts (is_len n) (list_all is_len ns) h).0).1
    among (n ∷ ns) (suc k) h = among ns k (and_parts (is_len n) (list_all is_len ns) h).1

    by : (o : Option Vertex) → slice_get g.vertices x.vertex ≡ o → with_vertex o 0 (λ y. slice_index_or y.outs x.port 0) ≤ 64
    by None is = omega arith
    by (Some y) is =
        let valid = vertex_valid g flat x.vertex y is in
        let named = is_path y.name in
        let outs = nat_le (length y.outs) 64 && list_all is_len y.outs in
        let guards = list_all (is_guard g.vertices) y.guards in
        let ins = list_all (nat_le 1) (lens_of g.vertices y.ins) in
        let fit = fits g.bodies y.kind (lens_of g.vertices y.ins) y.outs in
        let p = and_parts (named && outs && guards && ins) fit (and_parts (named && outs && guards && ins && fit) (has_twin g.vertices x.vertex y.kind y.twin) valid).0 in
        let q = and_parts (named && outs && guards) ins p.0 in
        let r = and_parts (named && outs) guards q.0 in
        let d = and_parts named outs r.0 in
        among y.outs x.port (and_parts (nat_le (length y.outs) 64) (list_all is_len y.outs) d.1).1

-- a medium takes at most 1,000,000 ticks, and as many for each element
time_low : (a : Architecture) → is_archi a.operators a.media ≡ true → (k : ℕ) (m : Medium) → slice_get a.media k ≡ Some m → (m.fixed ≤ 1000000) × (m.per ≤ 1000000)
time_low a valid k m e = by a.media k each e
  where
    each : list_all (is_medium (length a.operators)) a.media ≡ true
    each =
        let n = length a.operators in
        let bounds = are_bounded a.operators a.media in
        let all = list_all (is_medium n) a.media in
        let names = are_distinct (names_of a.operators a.media) in
        (and_parts bounds all (and_parts (bounds && all) names (and_parts (bounds && all && names) (are_joined n a.media) valid).0).0).1

    by : (ms : List Medium) (k : ℕ) → list_all (is_medium (length a.operators)) ms ≡ true → slice_get ms k ≡ Some m → (m.fixed ≤ 1000000) × (m.per ≤ 1000000)
    by [] k h e = absurd cc
    by (x ∷ ms) zero h e =
        let same = same_Some x m e in
        let own = (and_parts (is_medium (length a.operators) x) (list_all (is_medium (length a.operators)) ms) h).0 in
        let stand = may_stand x.kind (length x.stands) && ascends_from 0 x.stands && list_all (λ o. nat_lt o (length a.operators)) x.stands in
        let p = and_parts (stand && nat_le x.fixed 1000000) (nat_le x.per 1000000) own in
        let q = and_parts stand (nat_le x.fixed 1000000) p.0 in
        let per = leb-true x.per 1000000 p.1 in
        let fixed = leb-true x.fixed 1000000 q.1 in
        let f = ap (λ (z : Medium). z.fixed) same in
        let r = ap (λ (z : Medium). z.per) same in
        ((omega arith), (omega arith))
    by (x ∷ ms) (suc k) h e = by ms k (and_parts (is_medium (length a.operators) x) (list_all (is_medium (length a.operators)) ms) h).1 e

module _ (g : Graph) (a : Architecture) (t : Table) (s : Schedule) (flat : is_flat g ≡ true) (archi : is_archi a.operators a.media ≡ true)
    (rows : All (IsRow t.operators) t.rows) (valid : is_valid g a (entry_in t) s ≡ true) where
  -- no act lasts longer than 1,000,000,000 ticks
  pub stated_low : (i : ℕ) (x : Act) → slice_get (acts s) i ≡ Some x → stated x ≤ 1000000000
  stated_low i (carry c) e =
      let parts = and_parts (is_carried (slice_get a.media c.medium) (len_of g.vertices c.source) c
      && have_ended (is_over c.medium) (take i (acts s)) c.start) (not (is_there g a (entry_in t) (take i (acts s)) (copy c.to c.source)))
      (right_at g a (entry_in t) s valid i (carry c) e).act in
      let first = and_parts (is_carried (slice_get a.media c.medium) (len_of g.vertices c.source) c) (have_ended (is_over c.medium) (take i (acts s)) c.start) parts.0 in
      by (slice_get a.media c.medium) refl first.0
    where
      by : (o : Option Medium) → slice_get a.media c.medium ≡ o → is_carried o (len_of g.vertices c.source) c ≡ true → c.end - c.start ≤ 1000000000
      by None e h = absurd (false≢true h)
      by (Some m) e h =
          let end = eqb-true c.end (c.start + (m.fixed + len_of g.vertices c.source * m.per)) (and_parts (stands_at m c.from && stands_at m c.to) _ h).1 in
          let low = time_low a archi c.medium m e in
          let fixed = low.0 in
          let product : len_of g.vertices c.source * m.per ≤ 64 * 1000000 = mul-le (len_of g.vertices c.source) m.per 64 1000000 (len_low g flat c.source) low.1 in
          omega arith
  stated_low i (run d) e =
      let r = (right_at g a (entry_in t) s valid i (run d) e).act in
      let free = and_parts _ (have_ended (is_on d.operator) (take i (acts s)) d.start) r in
      let new = and_parts _ (not (list_any (runs d.op) (take i (acts s)))) free.0 in
      let timing = and_parts _ (lasts (entry_in t d.op d.operator) d.start d.end) new.0 in
      by (entry_in t d.op d.operator) refl timing.1
    where
      by : (o : Option ℕ) → entry_in t d.op d.operator ≡ o → lasts o d.start d.end ≡ true → d.end - d.start ≤ 1000000000
      by None e h = absurd (false≢true h)
      by (Some n) e h =
          let end = eqb-true d.end (d.start + n) h in
          let low = entry_low t rows d.op d.operator n e in
          omega arith

  -- a number for each act: of the copy that a transfer makes, or of the operation
  abbrev code : Act → ℕ
  code (carry c) = (c.source.vertex * 64 + c.source.port) * 16 + c.to
  code (run d) = 2097152 + d.op

  record Low (c : Transfer) : Type 0 where
    vertex : c.source.vertex < 2048
    port : c.source.port < 64
    operator : c.to < 16

  low : (i : ℕ) (c : Transfer) → slice_get (acts s) i ≡ Some (carry c) → Low c
  low i c e =
      let held = held_made g a (entry_in t) s flat archi valid i 0 (carry c) (copy c.to c.source) e refl in
      let outs = few_outputs g flat c.source.vertex held.it held.there in
      let few = few_operations g flat in
      let within = slice_get_within g.vertices c.source.vertex held.it held.there in
      let port = held.port in
      record { vertex = omega arith; port = omega arith; operator = held.operator }

  code_low : (i : ℕ) (x : Act) → slice_get (acts s) i ≡ Some x → code x < 2099200
  code_low i (carry c) e = let l = low i c e in let v = l.vertex in let p = l.port in let o = l.operator in omega arith
  code_low i (run d) e =
      let r = of_run g a (entry_in t) s valid i d e in
      let within = slice_get_within g.vertices d.op r.vertex r.there in
      let few = few_operations g flat in
      omega arith

  one_code : (i j : ℕ) (x y : Act) → slice_get (acts s) i ≡ Some x → slice_get (acts s) j ≡ Some y → code x ≡ code y → i ≡ j
  one_code i j (carry c) (carry d) e h q =
      let l = low i c e in let lp = l.port in let lo = l.operator in
      let m = low j d h in let mp = m.port in let mo = m.operator in
      let v : c.source.vertex ≡ d.source.vertex = omega arith in
      let p : c.source.port ≡ d.source.port = omega arith in
      let o : c.to ≡ d.to = omega arith in
      let same : copy d.to d.source ≡ copy c.to c.source = λ i. record { operator = sym o i; source = record { vertex = sym v i; port = sym p i } } in
      (one_maker g a (entry_in t) s valid i j 0 0 (carry c) (carry d) (copy c.to c.source) e h refl (ap (λ (z : Copy). Some z) same)).0
  one_code i j (run b) (run d) e h q = one_run g a (entry_in t) s valid i j b d e h (omega arith)
  one_code i j (carry c) (run d) e h q = let l = code_low i (carry c) e in let m = low i c e in let v = m.vertex in let p = m.port in let o = m.operator in absurd (omega arith)
  one_code i j (run b) (carry d) e h q = let m = low j d h in let v = m.vertex in let p = m.port in let o = m.operator in absurd (omega arith)

  pub few_acts : length (acts s) ≤ 2099200
  few_acts =
      let p = pigeons (map code (acts s)) 2099200
      (λ i k e. (let m = from_map code (acts s) i k e in let l = code_low i m.it m.stands in let z = m.is in omega arith))
      (λ i j k e h. (let m = from_map code (acts s) i k e in let n = from_map code (acts s) j k h in one_code i j m.it n.it m.stands n.stands (m.is ∙ sym n.is))) in
      let l = length-map (acts s) code in
      omega arith

  -- in at most 1,000 reactions no date is above 2 ^ 62
  module _ (depth : ℕ) (deep : 1 ≤ depth) (long ends : ℕ → ℕ → ℕ) (are : AreDates depth g.vertices (acts s) long ends)
      (short : (k i : ℕ) (x : Act) → slice_get (acts s) i ≡ Some x → long k i ≤ stated x) where
    pub dates_low : (k i : ℕ) (x : Act) → k < 1000 → slice_get (acts s) i ≡ Some x → ends k i < 2 ^ 62
    dates_low k i x l e =
        let bound = ends_low depth deep g.vertices (acts s) long ends are 1000000000 (λ j h y q. (let z = short j h y q in let w = stated_low h y q in omega arith)) k i x e in
        let few = few_acts in
        let within = slice_get_within (acts s) i x e in
        let row : k * length (acts s) + length (acts s) ≤ 1000 * 2099200 = row_fits k (length (acts s)) 1000 2099200 l few in
        let all : (k * length (acts s) + i) * 1000000000 ≤ (1000 * 2099200) * 1000000000 = mul-le (k * length (acts s) + i) 1000000000 (1000 * 2099200) 1000000000 (omega arith) (omega arith) in
        omega arith
