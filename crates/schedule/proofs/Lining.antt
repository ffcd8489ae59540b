-- What the tables of operations and lines tell of the acts so far.
use Rattle.std.proofs.Common.{◌≡◌, ℕ, zero, suc, ◌+◌, ◌*◌, ◌<◌, ◌≤◌, Bool, true, false, ◌&&◌, ◌||◌, ◌==◌, not, nat_eq, List, [], ◌∷◌, ◌++◌, length, Option, Some, None, refl, sym, ap, arith, ◌∙◌}
use Rattle.std.specs.Prelude.{slice_get, slice_index_or, slice_set, nat_le, nat_lt, is_none, is_some}
use Rattle.std.specs.List.{list_any, list_all, range_with_len}
use Rattle.std.specs.Cmp.Derive.{both_true}
use Rattle.std.proofs.lemmas.Bool.{false≢true, and_parts, le-leb, leb-true, ltb-true, eqb-true, eqb-false}
use Rattle.std.proofs.lemmas.List.{append-nil, append_assoc, get_or-set_same, get_or-set_other, length-set}
use Rattle.std.proofs.lemmas.List.Folds.{list_any-append, list_all-append}
use Rattle.std.proofs.Math.Bool.{and-true, or-false}
use Rattle.durations.specs.declared.Kind.{Kind}
use Rattle.durations.specs.declared.Kind.TheVariants.{Set}
use Rattle.durations.specs.declared.Vertex.{Vertex}
use Rattle.durations.specs.Graph.{Graph, with_vertex, len_of}
use Rattle.durations.specs.declared.Medium.{Medium}
use Rattle.durations.specs.Archi.{Architecture, stands_at}
use Rattle.durations.specs.FlatValid.{is_number}
use Rattle.durations.specs.Table.{Table, entry_in}
use Rattle.schedule.specs.declared.decision.Transfer.{Transfer}
use Rattle.schedule.specs.declared.decision.Decision.{Decision}
use Rattle.schedule.specs.declared.setting.Setting.{Setting}
use Rattle.schedule.specs.declared.line.Lines.{Lines}
use Rattle.schedule.specs.Acts.{Act, carry, run, end_of, is_over, is_on, runs}
use Rattle.schedule.specs.Valid.{have_ended, lasts, is_carried, follows_get, are_placed}
use Rattle.schedule.specs.Lines.{IsSetting, IsStart, HasPlaces, follows, may_carry, runs_in_time, may_run, may_follow, lines_after, are_in_line}
use Rattle.schedule.proofs.Lined.{lined, lined_after}
use Rattle.schedule.proofs.Copies.{same_bool}

-- Dates that are told by the last one.
later : (a b date : ℕ) → a ≤ b → nat_le b date ≡ (nat_le a date && nat_le b date)
later a b date l = same_bool (nat_le b date) (nat_le a date && nat_le b date)
    (λ h. both_true (le-leb a date (let m = leb-true b date h in omega arith)) h) (λ h. (and_parts (nat_le a date) (nat_le b date) h).1)

ended_more : (test : Act → Bool) (before : List Act) (x : Act) (date : ℕ) → have_ended test (before ++ x ∷ []) date ≡ (have_ended test before date && (not (test x) || nat_le (end_of x) date))
ended_more test before x date =
    list_all-append (λ y. not (test y) || nat_le (end_of y) date) before (x ∷ []) ∙ ap (λ (b : Bool). have_ended test before date && b) (and-true (not (test x) || nat_le (end_of x) date))

any_more : (test : Act → Bool) (before : List Act) (x : Act) → list_any test (before ++ x ∷ []) ≡ (list_any test before || test x)
any_more test before x = list_any-append test before (x ∷ []) ∙ ap (λ (b : Bool). list_any test before || b) (or-false (test x))

lasting : (o : Option ℕ) (start end : ℕ) → lasts o start end ≡ true → start ≤ end
lasting None start end h = absurd (false≢true h)
lasting (Some n) start end h = let e = eqb-true end (start + n) h in omega arith

carrying : (o : Option Medium) (n : ℕ) (t : Transfer) → is_carried o n t ≡ true → t.start ≤ t.end
carrying None n t h = absurd (false≢true h)
carrying (Some m) n t h =
    let e = eqb-true t.end (t.start + (m.fixed + n * m.per)) (and_parts (stands_at m t.from && stands_at m t.to) (t.end == t.start + (m.fixed + n * m.per)) h).1 in
    omega arith

there : (ms : List Medium) (k n : ℕ) (t : Transfer) → is_carried (slice_get ms k) n t ≡ true → k < length ms
there [] k n t h = absurd (false≢true h)
there (m ∷ ms) zero n t h = omega arith
there (m ∷ ms) (suc k) n t h = let r = there ms k n t h in omega arith

-- a table of last ends, with one more
one_end : (ends : List ℕ) (k date : ℕ) (before : Bool) (start end : ℕ) → k < length ends → slice_index_or ends k 0 ≤ start → start ≤ end
    → nat_le (slice_index_or ends k 0) date ≡ before → nat_le (slice_index_or (slice_set ends k end) k 0) date ≡ (before && nat_le end date)
one_end ends k date before start end l free long e =
    ap (λ (n : ℕ). nat_le n date) (get_or-set_same ends k end 0 l) ∙ later (slice_index_or ends k 0) end date (omega arith) ∙ ap (λ (b : Bool). b && nat_le end date) e

module _ (s : Setting) (g : Graph) (a : Architecture) (table : Table)
    (same_vertices : s.vertices.now ≡ g.vertices) (same_operators : s.operators ≡ length a.operators) (same_media : s.media.now ≡ a.media) (same_table : s.durations.now ≡ table)
    (set : IsSetting s) where
  pub record Told (l : Lines) (before : List Act) : Type 0 where
    pub sizes : HasPlaces l
    pub placed : (v : ℕ) → is_some (slice_index_or l.places v None) ≡ list_any (runs v) before
    pub on : (v o : ℕ) → is_number (slice_index_or l.places v None) o ≡ list_any (λ y. runs v y && is_on o y) before
    pub busy : (o date : ℕ) → nat_le (slice_index_or l.busy o 0) date ≡ have_ended (is_on o) before date
    pub ends : (m date : ℕ) → nat_le (slice_index_or l.ends m 0) date ≡ have_ended (is_over m) before date

  pub told_at_start : (l : Lines) → IsStart l → Told l []
  told_at_start l start = record {
    sizes = start.sizes;
    placed = λ v. ap is_some (start.places v);
    on = λ v o. ap (λ (p : Option ℕ). is_number p o) (start.places v);
    busy = λ o date. ap (λ (n : ℕ). nat_le n date) (start.busy o) ∙ le-leb 0 date (omega arith);
    ends = λ m date. ap (λ (n : ℕ). nat_le n date) (start.ends m) ∙ le-leb 0 date (omega arith);
  }

  follows_same : (l : Lines) (before : List Act) → Told l before → (o : ℕ) (k : Kind) (twin : Option ℕ) → follows l o k twin ≡ follows_get before o k twin
  follows_same l before t o Set (Some u) = t.on u o
  follows_same l before t o Set None = refl
  follows_same l before t o _ twin = refl

  none_is : (o : Option ℕ) → is_none o ≡ not (is_some o)
  none_is None = refl
  none_is (Some n) = refl

  -- by the tables it is seen whether an act may follow
  may_same : (l : Lines) (before : List Act) → Told l before → (x : Act) → may_follow s l x ≡ lined g a (entry_in table) before x
  may_same l before t (carry c) =
      λ i. nat_le 1 (len_of (same_vertices i) c.source) && is_carried (slice_get (same_media i) c.medium) (len_of (same_vertices i) c.source) c && t.ends c.medium c.start i
  may_same l before t (run d) =
      (λ i. with_vertex (slice_get (same_vertices i) d.op) false (λ x. follows_same l before t d.operator x.kind x.twin i
      && (nat_lt d.operator (same_operators i) && (lasts (entry_in (same_table i) d.op d.operator) d.start d.end && fresh i && t.busy d.operator d.start i))))
      ∙ by (slice_get g.vertices d.op)
    where
      fresh : is_none (slice_index_or l.places d.op None) ≡ not (list_any (runs d.op) before)
      fresh = none_is (slice_index_or l.places d.op None) ∙ ap not (t.placed d.op)

      order : (p q r x y : Bool) → (p && (q && (r && x && y))) ≡ (p && q && r && x && y)
      order false q r x y = refl
      order true false r x y = refl
      order true true r x y = refl

      by : (o : Option Vertex)
          → with_vertex o false (λ x. follows_get before d.operator x.kind x.twin
          && (nat_lt d.operator (length a.operators)
          && (lasts (entry_in table d.op d.operator) d.start d.end && not (list_any (runs d.op) before) && have_ended (is_on d.operator) before d.start)))
          ≡ (with_vertex o false (λ x. follows_get before d.operator x.kind x.twin) && nat_lt d.operator (length a.operators)
          && lasts (entry_in table d.op d.operator) d.start d.end && not (list_any (runs d.op) before) && have_ended (is_on d.operator) before d.start)
      by None = refl
      by (Some x) = order (follows_get before d.operator x.kind x.twin) (nat_lt d.operator (length a.operators))
          (lasts (entry_in table d.op d.operator) d.start d.end) (not (list_any (runs d.op) before)) (have_ended (is_on d.operator) before d.start)

  told_carry : (l : Lines) (before : List Act) → Told l before → (c : Transfer) → may_carry s l c ≡ true → Told (lines_after s l (carry c)) (before ++ carry c ∷ [])
  told_carry l before t c may =
      let p = and_parts (nat_le 1 (len_of s.vertices.now c.source)
      && is_carried (slice_get s.media.now c.medium) (len_of s.vertices.now c.source) c) (nat_le (slice_index_or l.ends c.medium 0) c.start) may in
      let carried = (and_parts (nat_le 1 (len_of s.vertices.now c.source)) (is_carried (slice_get s.media.now c.medium) (len_of s.vertices.now c.source) c) p.0).1 in
      let long = carrying (slice_get s.media.now c.medium) (len_of s.vertices.now c.source) c carried in
      let free = leb-true (slice_index_or l.ends c.medium 0) c.start p.1 in
      let low = there s.media.now c.medium (len_of s.vertices.now c.source) c carried in
      let sizes = t.sizes in
      let few = set.media in
      record {
        sizes = record { places = sizes.places; busy = sizes.busy; ends = length-set l.ends c.medium c.end ∙ sizes.ends };
        placed = λ v. t.placed v ∙ sym (or-false (list_any (runs v) before)) ∙ sym (any_more (runs v) before (carry c));
        on = λ v o. t.on v o ∙ sym (or-false (list_any (λ y. runs v y && is_on o y) before)) ∙ sym (any_more (λ y. runs v y && is_on o y) before (carry c));
        busy = λ o date. t.busy o date ∙ sym (and-true (have_ended (is_on o) before date)) ∙ sym (ended_more (is_on o) before (carry c) date);
        ends = λ m date. by m date (nat_eq c.medium m) refl long free (let sz = sizes.ends in omega arith);
      }
    where
      by : (m date : ℕ) (b : Bool) → nat_eq c.medium m ≡ b → c.start ≤ c.end → slice_index_or l.ends c.medium 0 ≤ c.start → c.medium < length l.ends
          → nat_le (slice_index_or (slice_set l.ends c.medium c.end) m 0) date ≡ have_ended (is_over m) (before ++ carry c ∷ []) date
      by m date true e long free low =
          let same = eqb-true c.medium m e in
          ap (λ (k : ℕ). nat_le (slice_index_or (slice_set l.ends c.medium c.end) k 0) date) (sym same)
          ∙ one_end l.ends c.medium date (have_ended (is_over c.medium) before date) c.start c.end low free long (t.ends c.medium date)
          ∙ (λ i. have_ended (is_over (same i)) before date && (not (sym e i) || nat_le c.end date))
          ∙ sym (ended_more (is_over m) before (carry c) date)
      by m date false e long free low =
          ap (λ (n : ℕ). nat_le n date) (get_or-set_other l.ends c.medium m c.end 0 (λ q. eqb-false c.medium m e (sym q)))
          ∙ t.ends m date ∙ sym (and-true (have_ended (is_over m) before date))
          ∙ (λ i. have_ended (is_over m) before date && (not (sym e i) || nat_le c.end date)) ∙ sym (ended_more (is_over m) before (carry c) date)

  -- what an operation that may run has
  record Runs (l : Lines) (d : Decision) : Type 0 where
    pub op : d.op < length l.places
    pub operator : d.operator < length l.busy
    pub fresh : is_none (slice_index_or l.places d.op None) ≡ true
    pub free : slice_index_or l.busy d.operator 0 ≤ d.start
    pub long : d.start ≤ d.end

  may_runs : (l : Lines) → HasPlaces l → (d : Decision) → may_run s l d ≡ true → Runs l d
  may_runs l sizes d may =
      let r = by s.vertices.now d.op may in
      let lasts' = lasts (entry_in s.durations.now d.op d.operator) d.start d.end in
      let none = is_none (slice_index_or l.places d.op None) in
      let free = nat_le (slice_index_or l.busy d.operator 0) d.start in
      let p = and_parts (nat_lt d.operator s.operators) (lasts' && none && free) r.1 in
      let q = and_parts (lasts' && none) free p.1 in
      let u = and_parts lasts' none q.0 in
      let low = ltb-true d.operator s.operators p.0 in
      let few = set.operators in
      let small = set.operations in
      let op = r.0 in
      let ps = sizes.places in
      let bs = sizes.busy in
      record {
        op = omega arith;
        operator = omega arith;
        fresh = u.1;
        free =
            leb-true (slice_index_or l.busy d.operator 0) d.start q.1;
        long = lasting (entry_in s.durations.now d.op d.operator) d.start d.end u.0;
      }
    where
      by : (xs : List Vertex) (v : ℕ) → with_vertex (slice_get xs v) false (λ x. follows l d.operator x.kind x.twin && runs_in_time s l d) ≡ true → (v < length xs) × (runs_in_time s l d ≡ true)
      by [] v h = absurd (false≢true h)
      by (x ∷ xs) zero h = ((omega arith), (and_parts (follows l d.operator x.kind x.twin) (runs_in_time s l d) h).1)
      by (x ∷ xs) (suc v) h = let r = by xs v h in ((let z = r.0 in omega arith), r.1)

  no_name : (o : Option ℕ) (p : ℕ) → is_none o ≡ true → is_number o p ≡ false
  no_name None p h = refl
  no_name (Some n) p h = absurd (false≢true h)

  not_some : (o : Option ℕ) → is_none o ≡ true → is_some o ≡ false
  not_some None h = refl
  not_some (Some n) h = absurd (false≢true h)

  told_run : (l : Lines) (before : List Act) → Told l before → (d : Decision) → may_run s l d ≡ true → Told (lines_after s l (run d)) (before ++ run d ∷ [])
  told_run l before t d may =
      let r = may_runs l t.sizes d may in
      let sizes = t.sizes in
      record {
        sizes = record { places = length-set l.places d.op (Some d.operator) ∙ sizes.places; busy = length-set l.busy d.operator d.end ∙ sizes.busy; ends = sizes.ends };
        placed = λ v. at_place is_some (runs v) v (t.placed v) (λ e. sym e) (λ e. e) (not_some (slice_index_or l.places d.op None) r.fresh) r;
        on = λ v o. at_place (λ p. is_number p o) (λ y. runs v y && is_on o y) v (t.on v o)
            (λ e. ap (λ (b : Bool). b && nat_eq d.operator o) (sym e)) (λ e. ap (λ (b : Bool). b && nat_eq d.operator o) e)
            (no_name (slice_index_or l.places d.op None) o r.fresh) r;
        busy = λ o date. by o date (nat_eq d.operator o) refl r;
        ends = λ m date. t.ends m date ∙ sym (and-true (have_ended (is_over m) before date)) ∙ sym (ended_more (is_over m) before (run d) date);
      }
    where
      at_place : (test : Option ℕ → Bool) (passes : Act → Bool) (v : ℕ) → test (slice_index_or l.places v None) ≡ list_any passes before
          → (nat_eq d.op v ≡ true → test (Some d.operator) ≡ passes (run d)) → (nat_eq d.op v ≡ false → passes (run d) ≡ false) → test (slice_index_or l.places d.op None) ≡ false → Runs l d
          → test (slice_index_or (slice_set l.places d.op (Some d.operator)) v None) ≡ list_any passes (before ++ run d ∷ [])
      at_place test passes v e now past none r = cases (nat_eq d.op v) refl
        where
          cases : (b : Bool) → nat_eq d.op v ≡ b → test (slice_index_or (slice_set l.places d.op (Some d.operator)) v None) ≡ list_any passes (before ++ run d ∷ [])
          cases true h =
              let same = eqb-true d.op v h in
              let before_none : list_any passes before ≡ false = sym e ∙ ap (λ (k : ℕ). test (slice_index_or l.places k None)) (sym same) ∙ none in
              ap (λ (k : ℕ). test (slice_index_or (slice_set l.places d.op (Some d.operator)) k None)) (sym same)
              ∙ ap test (get_or-set_same l.places d.op (Some d.operator) None r.op)
              ∙ now h ∙ ap (λ (b : Bool). b || passes (run d)) (sym before_none) ∙ sym (any_more passes before (run d))
          cases false h =
              ap test (get_or-set_other l.places d.op v (Some d.operator) None (λ q. eqb-false d.op v h (sym q)))
              ∙ e ∙ sym (or-false (list_any passes before)) ∙ ap (λ (b : Bool). list_any passes before || b) (sym (past h)) ∙ sym (any_more passes before (run d))

      by : (o date : ℕ) (b : Bool) → nat_eq d.operator o ≡ b → Runs l d → nat_le (slice_index_or (slice_set l.busy d.operator d.end) o 0) date ≡ have_ended (is_on o) (before ++ run d ∷ []) date
      by o date true e r =
          let same = eqb-true d.operator o e in
          ap (λ (k : ℕ). nat_le (slice_index_or (slice_set l.busy d.operator d.end) k 0) date) (sym same)
          ∙ one_end l.busy d.operator date (have_ended (is_on d.operator) before date) d.start d.end r.operator r.free r.long (t.busy d.operator date)
          ∙ (λ i. have_ended (is_on (same i)) before date && (not (sym e i) || nat_le d.end date))
          ∙ sym (ended_more (is_on o) before (run d) date)
      by o date false e r =
          ap (λ (n : ℕ). nat_le n date) (get_or-set_other l.busy d.operator o d.end 0 (λ q. eqb-false d.operator o e (sym q)))
          ∙ t.busy o date ∙ sym (and-true (have_ended (is_on o) before date))
          ∙ (λ i. have_ended (is_on o) before date && (not (sym e i) || nat_le d.end date)) ∙ sym (ended_more (is_on o) before (run d) date)

  told_more : (l : Lines) (before : List Act) → Told l before → (x : Act) → may_follow s l x ≡ true → Told (lines_after s l x) (before ++ x ∷ [])
  told_more l before t (carry c) may = told_carry l before t c may
  told_more l before t (run d) may = told_run l before t d may

  all_same : (f k : ℕ → Bool) → ((v : ℕ) → f v ≡ k v) → (vs : List ℕ) → list_all f vs ≡ list_all k vs
  all_same f k h [] = refl
  all_same f k h (v ∷ vs) = λ i. h v i && all_same f k h vs i

  -- so the check by the tables is that of the acts
  pub in_line_same : (l : Lines) (before xs : List Act) → Told l before → are_in_line s l xs ≡ (lined_after g a (entry_in table) before xs && are_placed g a (entry_in table) (before ++ xs))
  in_line_same l before [] t =
      all_same (λ v. is_some (slice_index_or l.places v None)) (λ v. list_any (runs v) before) t.placed (range_with_len 0 (length s.vertices.now))
      ∙ (λ i. list_all (λ v. list_any (runs v) (sym (append-nil before) i)) (range_with_len 0 (length (same_vertices i))))
  in_line_same l before (x ∷ xs) t = by (may_follow s l x) refl (λ k. in_line_same (lines_after s l x) (before ++ x ∷ []) xs k)
    where
      joined : before ++ x ∷ xs ≡ (before ++ x ∷ []) ++ xs
      joined = sym (append_assoc before (x ∷ []) xs)

      assoc : (p q r : Bool) → (p && (q && r)) ≡ ((p && q) && r)
      assoc true q r = refl
      assoc false q r = refl

      by : (b : Bool) → may_follow s l x ≡ b
          → (Told (lines_after s l x) (before ++ x ∷ []) → are_in_line s (lines_after s l x) xs
          ≡ (lined_after g a (entry_in table) (before ++ x ∷ []) xs && are_placed g a (entry_in table) ((before ++ x ∷ []) ++ xs)))
          → (b && are_in_line s (lines_after s l x) xs)
          ≡ ((lined g a (entry_in table) before x && lined_after g a (entry_in table) (before ++ x ∷ []) xs)
          && are_placed g a (entry_in table) (before ++ x ∷ xs))
      by true h rest =
          rest (told_more l before t x h)
          ∙ (λ i. (sym (sym (may_same l before t x) ∙ h) i && lined_after g a (entry_in table) (before ++ x ∷ []) xs) && are_placed g a (entry_in table) (sym joined i))
      by false h rest = λ i. (sym (sym (may_same l before t x) ∙ h) i && lined_after g a (entry_in table) (before ++ x ∷ []) xs) && are_placed g a (entry_in table) (before ++ x ∷ xs)
