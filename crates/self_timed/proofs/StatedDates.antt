-- What is told of the dates of a schedule whose entries last as stated, and of their period.
use Rattle.std.proofs.Common.{◌≡◌, ℕ, zero, suc, ◌+◌, ◌<◌, ◌≤◌, List, [], ◌∷◌, map, take, length, replicate, max, Option, Some, refl, sym, ap, ap₂, subst, true, inl, inr, arith, ◌∙◌}
use Rattle.std.specs.Prelude.{slice_get, slice_index_or, All, ◌/◌, ◌-◌}
use Rattle.std.specs.List.{range_with_len}
use Rattle.std.proofs.lemmas.Bool.{cases_lt}
use Rattle.std.proofs.lemmas.List.{length-replicate}
use Rattle.std.proofs.lemmas.List.Elements.{All-replicate}
use Rattle.std.proofs.lemmas.Option.{same_Some, slice_get_within, slice_get-get_or, get_or_from_slice_get}
use Rattle.sequence_build_laws.specs.declared.Vertex.{Vertex}
use Rattle.sequence_build_laws.specs.Graph.{Graph}
use Rattle.sequence_build_laws.specs.FlatValid.{is_flat}
use Rattle.sequence_build_laws.specs.Archi.{Architecture, is_archi}
use Rattle.sequence_build_laws.specs.Table.{entry_in}
use Rattle.sequence_build_laws.specs.declared.Decision.{Decision}
use Rattle.sequence_build_laws.specs.declared.Schedule.{Schedule}
use Rattle.sequence_build_laws.specs.Acts.{Act, acts}
use Rattle.sequence_build_laws.specs.Instructions.{number_or}
use Rattle.sequence_build_laws.proofs.Lists.{from_map, get_some, map_at, one_there}
use Rattle.sequence_build_laws.proofs.Sequences.{range_there, range_length}
use Rattle.self_timed.specs.Dates.{dates, start_by, with_act}
use Rattle.self_timed.specs.Entries.{entry_of, lasting, row_in, stated, AreWithin}
use Rattle.self_timed.proofs.Entered.{there}
use Rattle.self_timed.specs.declared.dates.Span.{Span}
use Rattle.self_timed.specs.Running.{no_span, span}
use Rattle.self_timed.specs.Told.{AreDatesOf, HaveEntries, IsValidForSome, entries_of, reaction_at, span_at}
use Rattle.self_timed.proofs.Held.{decided}
use Rattle.self_timed.specs.declared.period.Period.{Period}
use Rattle.self_timed.specs.Period.{AreStatedDates, all_done, as_stated, done_by, done_in, end_of_span, last_half, period_in, period_of_schedule, row_end, stated_end, stated_start}
use Rattle.self_timed.specs.Stated.{stated_row}
use Rattle.self_timed.proofs.Agreeing.{same_ends, same_starts}
use Rattle.self_timed.proofs.Greatest.{above, done_none, done_more, no_greater}
use Rattle.self_timed.proofs.Stating.{row_at, row_long}

repeated_is : {A : Type 0} (n : ℕ) (x : A) (k : ℕ) (y : A) → slice_get (replicate n x) k ≡ Some y → y ≡ x
repeated_is zero x k y e = absurd cc
repeated_is (suc n) x zero y e = sym (same_Some x y e)
repeated_is (suc n) x (suc k) y e = repeated_is n x k y e

repeated_at : {A : Type 0} (n : ℕ) (x : A) (k : ℕ) → k < n → slice_get (replicate n x) k ≡ Some x
repeated_at zero x k l = absurd (omega arith)
repeated_at (suc n) x zero l = refl
repeated_at (suc n) x (suc k) l = repeated_at n x k (omega arith)

module _ (g : Graph) (a : Architecture) (s : Schedule) (valid : IsValidForSome g a s) (n : ℕ) where
  at : (i : ℕ) (x : Act) → slice_get (acts s) i ≡ Some x → slice_get (stated_row (length g.vertices) s.decisions) (entry_of g.vertices (acts s) i) ≡ Some (stated x)
  at = row_at g a (entry_in valid.durations) s valid.valid

  long : length (stated_row (length g.vertices) s.decisions) ≡ entries_of g s
  long = row_long g a (entry_in valid.durations) s valid.valid

  entries : HaveEntries (entries_of g s) (replicate n (stated_row (length g.vertices) s.decisions))
  entries = All-replicate (λ (r : List ℕ). length r ≡ entries_of g s) n (stated_row (length g.vertices) s.decisions) long

  within : AreWithin g.vertices (acts s) (replicate n (stated_row (length g.vertices) s.decisions))
  within k r e i x h =
      let same = ap (λ (w : List ℕ). number_or 0 (slice_get w (entry_of g.vertices (acts s) i))) (repeated_is n (stated_row (length g.vertices) s.decisions) k r e) in
      let is = ap (number_or 0) (at i x h) in
      omega arith

  lasting_is : (k i : ℕ) (x : Act) → k < n → slice_get (acts s) i ≡ Some x
      → lasting g.vertices (acts s) (replicate n (stated_row (length g.vertices) s.decisions)) k i ≡ as_stated (acts s) k i
  lasting_is k i x l e =
      ap (λ (o : Option (List ℕ)). number_or 0 (slice_get (row_in o) (entry_of g.vertices (acts s) i))) (repeated_at n (stated_row (length g.vertices) s.decisions) k l)
      ∙ ap (number_or 0) (at i x e) ∙ sym (ap (λ (o : Option Act). with_act o stated) e)

  told : 1 ≤ a.depth → (rows : List (List Span)) → AreDatesOf a.depth g s (replicate n (stated_row (length g.vertices) s.decisions)) rows → AreStatedDates g a s n rows
  told deep rows d = record { count = d.count ∙ many; entries = d.entries; each = each }
    where
      many : length (replicate n (stated_row (length g.vertices) s.decisions)) ≡ n
      many = length-replicate n (stated_row (length g.vertices) s.decisions)

      each : (k i : ℕ) (x : Act) → k < n → slice_get (acts s) i ≡ Some x → span_at rows k (entry_of g.vertices (acts s) i) ≡ span (stated_start g a s k i x) (stated_end g a s k i)
      each k i x l e =
          d.each k i x (let z = many in omega arith) e
          ∙ ap₂ span
          (same_starts a.depth deep g.vertices (acts s) (lasting g.vertices (acts s) (replicate n (stated_row (length g.vertices) s.decisions))) (as_stated (acts s)) n lasting_is k i x l e)
          (same_ends a.depth deep g.vertices (acts s) (lasting g.vertices (acts s) (replicate n (stated_row (length g.vertices) s.decisions))) (as_stated (acts s)) n lasting_is k i x l e)

  -- of ticks that are equal to these
  module _ (actual : List (List ℕ)) (is : actual ≡ replicate n (stated_row (length g.vertices) s.decisions)) where
    pub has_entries : HaveEntries (entries_of g s) actual
    has_entries = subst (λ (w : List (List ℕ)). HaveEntries (entries_of g s) w) (sym is) entries

    pub is_within : AreWithin g.vertices (acts s) actual
    is_within = subst (λ (w : List (List ℕ)). AreWithin g.vertices (acts s) w) (sym is) within

    pub is_told : 1 ≤ a.depth → (rows : List (List Span)) → AreDatesOf a.depth g s actual rows → AreStatedDates g a s n rows
    is_told deep rows d = told deep rows (subst (λ (w : List (List ℕ)). AreDatesOf a.depth g s w rows) is d)

  module _ (rows : List (List Span)) (dated : AreStatedDates g a s n rows) where
    -- the span of an act's entry ends when the act does
    end_is : (k i : ℕ) (x : Act) → k < n → slice_get (acts s) i ≡ Some x → (slice_index_or (slice_index_or rows k []) (entry_of g.vertices (acts s) i) no_span).end ≡ stated_end g a s k i
    end_is k i x l e = ap (λ (w : Span). w.end) (dated.each k i x l e)

    row_is_long : (k : ℕ) → k < n → length (slice_index_or rows k []) ≡ entries_of g s
    row_is_long k l = dated.entries k [] (let z = dated.count in omega arith)

    row_done : (k : ℕ) → k < n → row_end (slice_index_or rows k []) ≡ done_in (stated_end g a s) (length (acts s)) k
    row_done k l = let u = up in let d = down in omega arith
      where
        up : row_end (slice_index_or rows k []) ≤ done_in (stated_end g a s) (length (acts s)) k
        up = no_greater (map end_of_span (slice_index_or rows k [])) (done_in (stated_end g a s) (length (acts s)) k) (λ e m q.
            let w = from_map end_of_span (slice_index_or rows k []) e m q in
            let low = slice_get_within (slice_index_or rows k []) e w.it w.stands in
            let many = row_is_long k l in
            let y = there g a (entry_in valid.durations) s valid.valid e (omega arith) in
            let end = end_is k y.0 y.1 l y.2 in
            let same = ap (λ (d : ℕ). (slice_index_or (slice_index_or rows k []) d no_span).end) y.3 in
            let read = ap end_of_span (get_or_from_slice_get (slice_index_or rows k []) e w.it no_span w.stands) in
            let is = w.is in
            let act = slice_get_within (acts s) y.0 y.1 y.2 in
            let most = above (map (stated_end g a s k) (range_with_len 0 (length (acts s)))) y.0 (stated_end g a s k (0 + y.0))
            (map_at (stated_end g a s k) (range_with_len 0 (length (acts s))) y.0 (0 + y.0) (range_there 0 (length (acts s)) y.0 act)) in
            let none : 0 + y.0 ≡ y.0 = omega arith in
            let at_none = ap (stated_end g a s k) none in
            omega arith)

        down : done_in (stated_end g a s) (length (acts s)) k ≤ row_end (slice_index_or rows k [])
        down = no_greater (map (stated_end g a s k) (range_with_len 0 (length (acts s)))) (row_end (slice_index_or rows k [])) (λ j m q.
            let w = from_map (stated_end g a s k) (range_with_len 0 (length (acts s))) j m q in
            let low = range_length 0 (length (acts s)) j w.it w.stands in
            let number = one_there (range_with_len 0 (length (acts s))) j (0 + j) w.it (range_there 0 (length (acts s)) j low) w.stands in
            let z : w.it ≡ j = omega arith in
            let x = get_some (acts s) j low in
            let entry = slice_get_within (stated_row (length g.vertices) s.decisions) (entry_of g.vertices (acts s) j) (stated x.0) (at j x.0 x.1) in
            let all = long in
            let many = row_is_long k l in
            let here = slice_get-get_or (slice_index_or rows k []) (entry_of g.vertices (acts s) j) no_span (omega arith) in
            let most = above (map end_of_span (slice_index_or rows k [])) (entry_of g.vertices (acts s) j) _ (map_at end_of_span (slice_index_or rows k []) (entry_of g.vertices (acts s) j) _ here) in
            let end = end_is k j x.0 l x.1 in
            let same = ap (stated_end g a s k) z in
            let is = w.is in
            omega arith)

    first_done : (m : ℕ) → m ≤ n → all_done (take m rows) ≡ done_by (stated_end g a s) (length (acts s)) m
    first_done zero l = done_none rows
    first_done (suc m) l =
        let one : m + 1 ≡ suc m = omega arith in
        let more = ap (λ (h : ℕ). all_done (take h rows)) one in
        let next = done_more rows m (let z = dated.count in omega arith) in
        let here = row_done m l in
        let rest = first_done m (omega arith) in
        omega arith

    pub period_is : period_in rows ≡ period_of_schedule g a s n
    period_is =
        let half : n / 2 ≤ n = omega arith in
        let all : n ≤ n = omega arith in
        ap (last_half (λ m. all_done (take m rows))) dated.count
        ∙ (λ j. record { ticks = first_done n all j - first_done (n / 2) half j; reactions = n - n / 2 })

-- the operations of decisions are there
pub ops_there : (g : Graph) (a : Architecture) (s : Schedule) → is_flat g ≡ true → is_archi a.operators a.media ≡ true
    → IsValidForSome g a s → (ds : List Decision) (vs : List Vertex) → ds ≡ s.decisions → vs ≡ g.vertices → All (λ (d : Decision). d.op < length vs) ds
ops_there g a s flat archi valid ds vs same is = subst (λ (w : List Decision). All (λ (d : Decision). d.op < length vs) w) (sym same) (λ k d l.
    let p = (decided g a (entry_in valid.durations) s flat archi valid.valid k d l).placed in
    let z = slice_get_within g.vertices (slice_index_or s.decisions k d).op p.it p.there in
    let w = ap length is in
    omega arith)

-- each reaction has a span for each operation
pub operations_there : (g : Graph) (a : Architecture) (s : Schedule) (n : ℕ) (rows : List (List Span)) → AreStatedDates g a s n rows → All (λ (row : List Span). length g.vertices ≤ length row) rows
operations_there g a s n rows dated i d l = let z = dated.entries i d l in omega arith
