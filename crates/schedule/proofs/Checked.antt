-- A schedule is valid exactly where its lines are right and its copies are there in time.
use Rattle.std.proofs.Common.{
  ◌≡◌,
  ℕ,
  zero,
  suc,
  ◌+◌,
  ◌*◌,
  ◌/◌,
  ◌<◌,
  ◌≤◌,
  Bool,
  true,
  false,
  ◌&&◌,
  ◌||◌,
  ◌==◌,
  not,
  List,
  [],
  ◌∷◌,
  ◌++◌,
  map,
  length,
  Option,
  Some,
  None,
  refl,
  sym,
  ap,
  arith,
  ◌∙◌,
  inl,
  inr,
}
use Rattle.std.specs.Prelude.{slice_get, slice_index_or, nat_le, nat_lt}
use Rattle.std.specs.List.{list_any, list_all, range_with_len}
use Rattle.std.specs.Cmp.Derive.{both_true}
use Rattle.std.proofs.lemmas.Bool.{false≢true, and_parts, or_cases, or_left, or_right, le-leb, lt-ltb, ltb-true}
use Rattle.std.proofs.lemmas.List.Folds.{list_any-append}
use Rattle.durations.specs.declared.Source.{Source}
use Rattle.durations.specs.declared.Vertex.{Vertex}
use Rattle.durations.specs.Graph.{Graph, with_vertex, len_of}
use Rattle.durations.specs.FlatValid.{is_flat}
use Rattle.durations.specs.declared.Medium.{Medium}
use Rattle.durations.specs.Archi.{Architecture, is_archi, stands_at}
use Rattle.schedule.specs.declared.decision.Transfer.{Transfer}
use Rattle.schedule.specs.Acts.{Act, carry, run, start_of, end_of, is_over, is_on, runs, Copy, copy, same_copy, outputs_of, sources_of, read_by, made_by}
use Rattle.schedule.specs.Valid.{have_ended, lasts, is_carried, follows_get, is_held, is_there, is_transfer, is_placement, is_act, is_right, are_right, are_placed}
use Rattle.schedule.specs.Windows.{covers, is_made, is_fresh, is_fed, fed_after, are_fed_from}
use Rattle.schedule.proofs.Lined.{lined, lined_after}
use Rattle.schedule.proofs.Copies.{same_bool, copy_is, output_there, few_outputs, output_has_len, sources_have_len, made_by_run}

module _ (g : Graph) (a : Architecture) (ticks : ℕ → ℕ → Option ℕ) (flat : is_flat g ≡ true) where
  -- what was made is an output that is there
  abbrev pub AreOutputs : List Act → Type 0
  AreOutputs before = (c : Copy) → is_made g.vertices before c ≡ true → nat_le 1 (len_of g.vertices c.source) ≡ true

  held_made : (before : List Act) (date : ℕ) (c : Copy) → is_held g a ticks before date c ≡ true → is_made g.vertices before c ≡ true
  held_made [] date c h = h
  held_made (y ∷ ys) date c h = elim (or_cases (nat_le (end_of y) date && list_any (same_copy c) (made_by g.vertices y)) (is_held g a ticks ys date c) h) [
    | inl e ↦ or_left (list_any (same_copy c) (made_by g.vertices y)) (is_made g.vertices ys c) (and_parts (nat_le (end_of y) date) (list_any (same_copy c) (made_by g.vertices y)) e).1
    | inr e ↦ or_right (list_any (same_copy c) (made_by g.vertices y)) (is_made g.vertices ys c) (held_made ys date c e)
  ]

  read_first : (before : List Act) (t : Transfer) → is_right g a ticks before (carry t) ≡ true → is_held g a ticks before t.start (copy t.from t.source) ≡ true
  read_first before t r =
      (and_parts (is_held g a ticks before t.start (copy t.from t.source)) true (and_parts (is_transfer g a ticks before t) (is_held g a ticks before t.start (copy t.from t.source) && true) r).1).0

  outputs_more : (before : List Act) (x : Act) → AreOutputs before → is_right g a ticks before x ≡ true → AreOutputs (before ++ x ∷ [])
  outputs_more before x all r c h =
      elim (or_cases (is_made g.vertices before c) (list_any (same_copy c) (made_by g.vertices x) || false)
      (sym (list_any-append (λ y. list_any (same_copy c) (made_by g.vertices y)) before (x ∷ [])) ∙ h)) [
        | inl e ↦ all c e
        | inr e ↦ now x r (elim (or_cases (list_any (same_copy c) (made_by g.vertices x)) false e) [ inl k ↦ k | inr k ↦ absurd (false≢true k) ])
      ]
    where
      now : (x : Act) → is_right g a ticks before x ≡ true → list_any (same_copy c) (made_by g.vertices x) ≡ true → nat_le 1 (len_of g.vertices c.source) ≡ true
      now (carry t) r k =
          let same = copy_is c (copy t.to t.source) (elim (or_cases (same_copy c (copy t.to t.source)) false k) [ inl e ↦ e | inr e ↦ absurd (false≢true e) ]) in
          ap (λ (d : Copy). nat_le 1 (len_of g.vertices d.source)) same ∙ all (copy t.from t.source) (held_made before t.start (copy t.from t.source) (read_first before t r))
      now (run d) r k = by (slice_get g.vertices d.op) refl k
        where
          by : (v : Option Vertex) → slice_get g.vertices d.op ≡ v → list_any (same_copy c) (map (copy d.operator) (outputs_of d.op v)) ≡ true → nat_le 1 (len_of g.vertices c.source) ≡ true
          by None is k = absurd (false≢true k)
          by (Some y) is k =
              let m = made_by_run c.operator c.source d.operator d.op 0 y.outs k in
              let port : c.source.port ≡ m.1 = (let q = m.2 in omega arith) in
              ap (λ (v : ℕ). nat_le 1 (with_vertex (slice_get g.vertices v) 0 (λ z. slice_index_or z.outs c.source.port 0))) m.0
              ∙ ap (λ (o : Option Vertex). nat_le 1 (with_vertex o 0 (λ z. slice_index_or z.outs c.source.port 0))) is
              ∙ ap (λ (j : ℕ). nat_le 1 (slice_index_or y.outs j 0)) port
              ∙ output_has_len g flat d.op y is m.1 m.3

  -- a right act is in line, and fed from every window
  right_lined : (before : List Act) (x : Act) → AreOutputs before → is_right g a ticks before x ≡ true → lined g a ticks before x ≡ true
  right_lined before (run d) all r = (and_parts (is_placement g a ticks before d) (list_all (is_held g a ticks before d.start) (read_by g.vertices (run d))) r).0
  right_lined before (carry t) all r =
      let parts = and_parts (is_transfer g a ticks before t) (is_held g a ticks before t.start (copy t.from t.source) && true) r in
      let joins = is_carried (slice_get a.media t.medium) (len_of g.vertices t.source) t in
      let free = have_ended (is_over t.medium) before t.start in
      let p = and_parts (joins && free) (not (is_there g a ticks before (copy t.to t.source))) parts.0 in
      let q = and_parts joins free p.0 in
      both_true (both_true (all (copy t.from t.source) (held_made before t.start (copy t.from t.source) (read_first before t r))) q.0) q.1

  unless : (b x : Bool) → x ≡ true → (not b || x) ≡ true
  unless true x h = h
  unless false x h = refl

  all_unless : (first date : ℕ) (before : List Act) (cs : List Copy) → list_all (is_held g a ticks before date) cs ≡ true
      → list_all (λ c. not (covers first c) || is_held g a ticks before date c) cs ≡ true
  all_unless first date before [] h = refl
  all_unless first date before (c ∷ cs) h =
      let r = and_parts (is_held g a ticks before date c) (list_all (is_held g a ticks before date) cs) h in
      both_true (unless (covers first c) (is_held g a ticks before date c) r.0) (all_unless first date before cs r.1)

  right_fed : (first : ℕ) (before : List Act) (x : Act) → is_right g a ticks before x ≡ true → is_fed g.vertices first before x ≡ true
  right_fed first before x r =
      let parts = and_parts (is_act g a ticks before x) (list_all (is_held g a ticks before (start_of x)) (read_by g.vertices x)) r in
      both_true (fresh x parts.0) (all_unless first (start_of x) before (read_by g.vertices x) parts.1)
    where
      fresh : (x : Act) → is_act g a ticks before x ≡ true → is_fresh g.vertices first before x ≡ true
      fresh (run d) h = refl
      fresh (carry t) h =
          unless (covers first (copy t.to t.source)) (not (is_made g.vertices before (copy t.to t.source)))
          (and_parts (is_carried (slice_get a.media t.medium) (len_of g.vertices t.source) t
          && have_ended (is_over t.medium) before t.start) (not (is_made g.vertices before (copy t.to t.source))) h).1

  lined_where_right : (before xs : List Act) → AreOutputs before → are_right g a ticks before xs ≡ true → lined_after g a ticks before xs ≡ true
  lined_where_right before [] all h = refl
  lined_where_right before (x ∷ xs) all h =
      let r = and_parts (is_right g a ticks before x) (are_right g a ticks (before ++ x ∷ []) xs) h in
      both_true (right_lined before x all r.0) (lined_where_right (before ++ x ∷ []) xs (outputs_more before x all r.0) r.1)

  fed_where_right : (first : ℕ) (before xs : List Act) → are_right g a ticks before xs ≡ true → fed_after g.vertices first before xs ≡ true
  fed_where_right first before [] h = refl
  fed_where_right first before (x ∷ xs) h =
      let r = and_parts (is_right g a ticks before x) (are_right g a ticks (before ++ x ∷ []) xs) h in
      both_true (right_fed first before x r.0) (fed_where_right first (before ++ x ∷ []) xs r.1)

  module _ (archi : is_archi a.operators a.media ≡ true) (small : length g.vertices ≤ 2048) (few : length a.operators ≤ 16)
      (below : (m : ℕ) (o : ℕ) (x : Medium) → slice_get a.media m ≡ Some x → stands_at x o ≡ true → o < length a.operators) where
    -- the window of an operation
    window_of : ℕ → ℕ
    window_of v = v / 16

    is_covered : (o : ℕ) (x : Source) → nat_le 1 (len_of g.vertices x) ≡ true → o < length a.operators → covers (x.vertex / 16 * 16) (copy o x) ≡ true
    is_covered o x h l =
        let y = output_there g.vertices x h in
        let ports = few_outputs g flat x.vertex y.it y.is in
        let port = y.port in
        both_true (both_true (both_true (le-leb (x.vertex / 16 * 16) x.vertex (omega arith))
        (lt-ltb x.vertex (x.vertex / 16 * 16 + 16) (omega arith))) (lt-ltb x.port 64 (omega arith))) (lt-ltb o 16 (omega arith))

    abbrev pub AreFed : List Act → List Act → Type 0
    AreFed before xs = (k : ℕ) → k < (length g.vertices + 15) / 16 → fed_after g.vertices (k * 16) before xs ≡ true

    in_window : (o : ℕ) (x : Source) → nat_le 1 (len_of g.vertices x) ≡ true → x.vertex / 16 < (length g.vertices + 15) / 16
    in_window o x h = let v = (output_there g.vertices x h).vertex in omega arith

    abbrev pub OneFed : List Act → Act → Type 0
    OneFed before x = (k : ℕ) → k < (length g.vertices + 15) / 16 → is_fed g.vertices (k * 16) before x ≡ true

    drop_not : (b x : Bool) → b ≡ true → (not b || x) ≡ true → x ≡ true
    drop_not true x h k = k
    drop_not false x h k = absurd (false≢true h)

    fed_parts : (before : List Act) (x : Act) → OneFed before x → (k : ℕ) → k < (length g.vertices + 15) / 16
        → (is_fresh g.vertices (k * 16) before x ≡ true) × (list_all (λ c. not (covers (k * 16) c) || is_held g a ticks before (start_of x) c) (read_by g.vertices x) ≡ true)
    fed_parts before x fed k l = and_parts (is_fresh g.vertices (k * 16) before x) (list_all (λ c. not (covers (k * 16) c) || is_held g a ticks before (start_of x) c) (read_by g.vertices x)) (fed k l)

    -- what is read of this list is held
    reads : (before : List Act) (date o : ℕ) → o < length a.operators → (xs : List Source) → list_all (λ s. nat_le 1 (len_of g.vertices s)) xs ≡ true
        → ((k : ℕ) → k < (length g.vertices + 15) / 16 → list_all (λ c. not (covers (k * 16) c) || is_held g a ticks before date c) (map (copy o) xs) ≡ true)
        → list_all (is_held g a ticks before date) (map (copy o) xs) ≡ true
    reads before date o l [] h fed = refl
    reads before date o l (x ∷ xs) h fed =
        let r = and_parts (nat_le 1 (len_of g.vertices x)) (list_all (λ s. nat_le 1 (len_of g.vertices s)) xs) h in
        let k = x.vertex / 16 in
        let one = (and_parts (not (covers (k * 16) (copy o x)) || is_held g a ticks before date (copy o x))
        (list_all (λ c. not (covers (k * 16) c) || is_held g a ticks before date c) (map (copy o) xs)) (fed k (in_window o x r.0))).0 in
        both_true (drop_not (covers (k * 16) (copy o x)) (is_held g a ticks before date (copy o x)) (is_covered o x r.0 l) one)
        (reads before date o l xs r.1 (λ j q.
        (and_parts (not (covers (j * 16) (copy o x)) || is_held g a ticks before date (copy o x))
        (list_all (λ c. not (covers (j * 16) c) || is_held g a ticks before date c) (map (copy o) xs)) (fed j q)).1))

    one_right : (before : List Act) (x : Act) → lined g a ticks before x ≡ true → OneFed before x → is_right g a ticks before x ≡ true
    one_right before (carry t) h fed =
        let len = nat_le 1 (len_of g.vertices t.source) in
        let joins = is_carried (slice_get a.media t.medium) (len_of g.vertices t.source) t in
        let free = have_ended (is_over t.medium) before t.start in
        let p = and_parts (len && joins) free h in
        let q = and_parts len joins p.0 in
        let ends = stand (slice_get a.media t.medium) refl q.1 in
        let k = t.source.vertex / 16 in
        let l = in_window t.to t.source q.0 in
        let f = fed_parts before (carry t) fed k l in
        let held = drop_not (covers (k * 16) (copy t.from t.source)) (is_held g a ticks before t.start (copy t.from t.source)) (is_covered t.from t.source q.0 ends.0)
        (and_parts (not (covers (k * 16) (copy t.from t.source)) || is_held g a ticks before t.start (copy t.from t.source)) true f.1).0 in
        let new = drop_not (covers (k * 16) (copy t.to t.source)) (not (is_made g.vertices before (copy t.to t.source))) (is_covered t.to t.source q.0 ends.1) f.0 in
        both_true (both_true (both_true q.1 p.1) new) (both_true held refl)
      where
        stand : (o : Option Medium) → slice_get a.media t.medium ≡ o → is_carried o (len_of g.vertices t.source) t ≡ true → (t.from < length a.operators) × (t.to < length a.operators)
        stand None is h = absurd (false≢true h)
        stand (Some m) is h =
            let r = and_parts (stands_at m t.from) (stands_at m t.to) (and_parts (stands_at m t.from && stands_at m t.to) (t.end == t.start + (m.fixed + len_of g.vertices t.source * m.per)) h).0 in
            (below t.medium t.from m is r.0, below t.medium t.to m is r.1)
    one_right before (run d) h fed =
        let half = with_vertex (slice_get g.vertices d.op) false (λ x. follows_get before d.operator x.kind x.twin) in
        let low = nat_lt d.operator (length a.operators) in
        let time = lasts (ticks d.op d.operator) d.start d.end in
        let new = not (list_any (runs d.op) before) in
        let free = have_ended (is_on d.operator) before d.start in
        let p = and_parts (half && low && time && new) free h in
        let q = and_parts (half && low && time) new p.0 in
        let r = and_parts (half && low) time q.0 in
        let u = and_parts half low r.0 in
        both_true h (by (slice_get g.vertices d.op) refl u.0 (ltb-true d.operator (length a.operators) u.1) (λ k l. (fed_parts before (run d) fed k l).1))
      where
        by : (o : Option Vertex) → slice_get g.vertices d.op ≡ o → with_vertex o false (λ x. follows_get before d.operator x.kind x.twin) ≡ true → d.operator < length a.operators
            → ((k : ℕ) → k < (length g.vertices + 15) / 16 → list_all (λ c. not (covers (k * 16) c) || is_held g a ticks before d.start c) (map (copy d.operator) (sources_of o)) ≡ true)
            → list_all (is_held g a ticks before d.start) (map (copy d.operator) (sources_of o)) ≡ true
        by None is h l fed = absurd (false≢true h)
        by (Some x) is h l fed = reads before d.start d.operator l (sources_of (Some x)) (sources_have_len g flat d.op x is) fed

    right_where_fed : (before xs : List Act) → lined_after g a ticks before xs ≡ true → AreFed before xs → are_right g a ticks before xs ≡ true
    right_where_fed before [] h fed = refl
    right_where_fed before (x ∷ xs) h fed =
        let r = and_parts (lined g a ticks before x) (lined_after g a ticks (before ++ x ∷ []) xs) h in
        both_true (one_right before x r.0 (λ k l. (and_parts (is_fed g.vertices (k * 16) before x) (fed_after g.vertices (k * 16) (before ++ x ∷ []) xs) (fed k l)).0))
        (right_where_fed (before ++ x ∷ []) xs r.1 (λ k l. (and_parts (is_fed g.vertices (k * 16) before x) (fed_after g.vertices (k * 16) (before ++ x ∷ []) xs) (fed k l)).1))

    all_range : (f : ℕ → Bool) (from n : ℕ) → list_all f (range_with_len from n) ≡ true → (k : ℕ) → k < n → f (from + k) ≡ true
    all_range f from zero h k l = absurd (omega arith)
    all_range f from (suc n) h zero l = let e : from + 0 ≡ from = omega arith in ap f e ∙ (and_parts (f from) (list_all f (range_with_len (from + 1) n)) h).0
    all_range f from (suc n) h (suc k) l =
        let e : from + suc k ≡ from + 1 + k = omega arith in ap f e ∙ all_range f (from + 1) n (and_parts (f from) (list_all f (range_with_len (from + 1) n)) h).1 k (omega arith)

    range_all : (f : ℕ → Bool) (from n : ℕ) → ((k : ℕ) → k < n → f (from + k) ≡ true) → list_all f (range_with_len from n) ≡ true
    range_all f from zero h = refl
    range_all f from (suc n) h =
        let e : from ≡ from + 0 = omega arith in
        both_true (ap f e ∙ h 0 (omega arith)) (range_all f (from + 1) n (λ k l. let e : from + 1 + k ≡ from + suc k = omega arith in ap f e ∙ h (suc k) (omega arith)))

    -- the whole check
    pub checked : (xs : List Act) → (are_right g a ticks [] xs && are_placed g a ticks xs)
        ≡ ((lined_after g a ticks [] xs && are_placed g a ticks xs) && list_all (are_fed_from g.vertices xs) (range_with_len 0 ((length g.vertices + 15) / 16)))
    checked xs =
        same_bool (are_right g a ticks [] xs && are_placed g a ticks xs)
        ((lined_after g a ticks [] xs && are_placed g a ticks xs)
        && list_all (are_fed_from g.vertices xs) (range_with_len 0 ((length g.vertices + 15) / 16)))
        (λ h.
        let r = and_parts (are_right g a ticks [] xs) (are_placed g a ticks xs) h in
        both_true (both_true (lined_where_right [] xs (λ c k. absurd (false≢true k)) r.0) r.1)
        (range_all (are_fed_from g.vertices xs) 0 ((length g.vertices + 15) / 16) (λ k l. fed_where_right ((0 + k) * 16) [] xs r.0)))
        (λ h.
        let r = and_parts (lined_after g a ticks [] xs && are_placed g a ticks xs) (list_all (are_fed_from g.vertices xs) (range_with_len 0 ((length g.vertices + 15) / 16))) h in
        let q = and_parts (lined_after g a ticks [] xs) (are_placed g a ticks xs) r.0 in
        both_true (right_where_fed [] xs q.0 (λ k l. let e : k ≡ 0 + k = omega arith in
        ap (λ (j : ℕ). fed_after g.vertices (j * 16) [] xs) e ∙ all_range (are_fed_from g.vertices xs) 0 ((length g.vertices + 15) / 16) r.1 k l)) q.1)
