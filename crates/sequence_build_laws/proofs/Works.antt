-- What a valid schedule's acts have done: each copy is made by one act, and is read after it.
use Rattle.std.proofs.Common.{◌≡◌, ℕ, zero, suc, ◌+◌, ◌<◌, ◌≤◌, true, false, ◌&&◌, not, List, [], ◌∷◌, ◌++◌, length, take, Option, Some, None, refl, sym, ap, inl, inr, arith, ◌∙◌, eq-eqb}
use Rattle.std.specs.Prelude.{slice_get, nat_lt, nat_le}
use Rattle.std.specs.List.{list_any, list_all, range_with_len}
use Rattle.std.proofs.lemmas.Bool.{false≢true, and_parts, eqb-true, ltb-true, cases_lt, cases_eq, not-true}
use Rattle.std.proofs.lemmas.Option.{same_Some, slice_get_within}
use Rattle.std.proofs.lemmas.List.{append-nil, append_assoc}
use Rattle.schedule.specs.declared.Source.{Source}
use Rattle.schedule.specs.declared.Vertex.{Vertex}
use Rattle.schedule.specs.Graph.{Graph, with_vertex, len_of}
use Rattle.schedule.specs.declared.Medium.{Medium}
use Rattle.schedule.specs.Archi.{Architecture, stands_at}
use Rattle.schedule.specs.declared.decision.Transfer.{Transfer}
use Rattle.schedule.specs.declared.decision.Decision.{Decision}
use Rattle.schedule.specs.declared.decision.Schedule.{Schedule}
use Rattle.schedule.specs.Acts.{Act, carry, run, acts, start_of, end_of, is_over, is_on, runs, Copy, copy, same_copy, outputs_from, outputs_of, read_by, made_by}
use Rattle.schedule.specs.Valid.{is_valid, is_right, are_right, are_placed, is_act, is_held, is_there, have_ended, lasts, is_carried, follows_get}
use Rattle.schedule.proofs.Copies.{copy_is, same_copy_self}
use Rattle.executive_program.proofs.Reading.{any_at, any_of}
use Rattle.sequence_build_laws.specs.Serial.{copies, buffer_for}
use Rattle.sequence_build_laws.proofs.Lists.{all_at, first, get_take, take_get, from_map, in_flat, flat_at, starts, starts_rise}
use Rattle.sequence_build_laws.proofs.Sequences.{range_there}

pub output_from : (v port : ℕ) (ns : List ℕ) (k : ℕ) (x : Source) → slice_get (outputs_from v port ns) k ≡ Some x → (x.vertex ≡ v) × (x.port ≡ port + k) × (n : ℕ) × (slice_get ns k ≡ Some n)
output_from v port [] k x e = absurd cc
output_from v port (n ∷ ns) zero x e = let z = same_Some _ x e in (ap (λ (y : Source). y.vertex) (sym z), (let y = ap (λ (y : Source). y.port) z in omega arith), n, refl)
output_from v port (n ∷ ns) (suc k) x e = let r = output_from v (port + 1) ns k x e in (r.0, (let z = r.1 in omega arith), r.2, r.3)

pub output_of : (v : ℕ) (o : Option Vertex) (k : ℕ) (x : Source) → slice_get (outputs_of v o) k ≡ Some x → (x.vertex ≡ v) × (x.port ≡ k)
    × (y : Vertex) × (o ≡ Some y) × (n : ℕ) × (slice_get y.outs k ≡ Some n)
output_of v None k x e = absurd cc
output_of v (Some y) k x e = let r = output_from v 0 y.outs k x e in (r.0, (let z = r.1 in omega arith), y, refl, r.2, r.3)

module _ (g : Graph) (a : Architecture) (ticks : ℕ → ℕ → Option ℕ) (s : Schedule) (valid : is_valid g a ticks s ≡ true) where
  abbrev pub work : List Act
  work = acts s

  abbrev pub reads_of : Act → List Copy
  reads_of = read_by g.vertices

  abbrev pub makes_of : Act → List Copy
  makes_of = made_by g.vertices

  pub record Right (i : ℕ) (x : Act) : Type 0 where
    pub act : is_act g a ticks (take i (acts s)) x ≡ true
    pub held : list_all (is_held g a ticks (take i (acts s)) (start_of x)) (read_by g.vertices x) ≡ true

  right_behind : (before xs : List Act) (i : ℕ) (x : Act) → are_right g a ticks before xs ≡ true → slice_get xs i ≡ Some x → is_right g a ticks (before ++ take i xs) x ≡ true
  right_behind before [] i x h e = absurd cc
  right_behind before (y ∷ xs) zero x h e =
      (λ j. is_right g a ticks (append-nil before j) (sym (same_Some y x e) j)) ∙ (and_parts (is_right g a ticks before y) (are_right g a ticks (before ++ y ∷ []) xs) h).0
  right_behind before (y ∷ xs) (suc i) x h e =
      ap (λ (l : List Act). is_right g a ticks l x) (sym (append_assoc before (y ∷ []) (take i xs)))
      ∙ right_behind (before ++ y ∷ []) xs i x (and_parts (is_right g a ticks before y) (are_right g a ticks (before ++ y ∷ []) xs) h).1 e

  pub right_at : (i : ℕ) (x : Act) → slice_get (acts s) i ≡ Some x → Right i x
  right_at i x e =
      let all = (and_parts (are_right g a ticks [] (acts s)) (are_placed g a ticks (acts s)) valid).0 in
      let parts = and_parts (is_act g a ticks (take i (acts s)) x) (list_all (is_held g a ticks (take i (acts s)) (start_of x)) (read_by g.vertices x)) (right_behind [] (acts s) i x all e) in
      record { act = parts.0; held = parts.1 }

  -- each operation runs
  pub placed : (v : ℕ) → v < length g.vertices → (i : ℕ) × (d : Decision) × (slice_get (acts s) i ≡ Some (run d)) × (d.op ≡ v)
  placed v h =
      let all = (and_parts (are_right g a ticks [] (acts s)) (are_placed g a ticks (acts s)) valid).1 in
      let r = all_at (λ v. list_any (runs v) (acts s)) (range_with_len 0 (length g.vertices)) all v (0 + v) (range_there 0 (length g.vertices) v h) in
      let k = any_of (runs (0 + v)) (acts s) r in
      by k.0 k.1 k.2 k.3
    where
      by : (i : ℕ) (x : Act) → slice_get (acts s) i ≡ Some x → runs (0 + v) x ≡ true → (i : ℕ) × (d : Decision) × (slice_get (acts s) i ≡ Some (run d)) × (d.op ≡ v)
      by i (carry t) e t' = absurd (false≢true t')
      by i (run d) e t' = (i, d, e, (let z = eqb-true d.op (0 + v) t' in omega arith))

  -- an act before it makes the copy
  pub record Earlier (i : ℕ) (c : Copy) : Type 0 where
    pub at : ℕ
    pub act : Act
    pub inner : ℕ
    pub less : at < i
    pub stands : slice_get (acts s) at ≡ Some act
    pub made : slice_get (made_by g.vertices act) inner ≡ Some c

  pub read_made : (i k : ℕ) (x : Act) (c : Copy) → slice_get (acts s) i ≡ Some x → slice_get (read_by g.vertices x) k ≡ Some c → Earlier i c
  read_made i k x c e h =
      let held = all_at (is_held g a ticks (take i (acts s)) (start_of x)) (read_by g.vertices x) (right_at i x e).held k c h in
      let y = any_of (λ y. nat_le (end_of y) (start_of x) && list_any (same_copy c) (made_by g.vertices y)) (take i (acts s)) held in
      let t = get_take (acts s) i y.0 y.1 y.2 in
      let parts = and_parts (nat_le (end_of y.1) (start_of x)) (list_any (same_copy c) (made_by g.vertices y.1)) y.3 in
      let d = any_of (same_copy c) (made_by g.vertices y.1) parts.1 in
      record { at = y.0; act = y.1; inner = d.0; less = t.0; stands = t.1; made = d.2 ∙ ap (λ (z : Copy). Some z) (sym (copy_is c d.1 d.3)) }

  -- the run of the operation whose output the copy is
  pub record Origin (i : ℕ) (c : Copy) : Type 0 where
    pub at : ℕ
    pub it : Decision
    pub output : ℕ
    pub no_later : at ≤ i
    pub stands : slice_get (acts s) at ≡ Some (run it)
    pub is : slice_get (outputs_of it.op (slice_get g.vertices it.op)) output ≡ Some c.source

  origin_within : (n i h : ℕ) (x : Act) (c : Copy) → i < n → slice_get (acts s) i ≡ Some x → slice_get (made_by g.vertices x) h ≡ Some c → Origin i c
  origin_within zero i h x c l e m = absurd (omega arith)
  origin_within (suc n) i h (run d) c l e m =
      let r = from_map (copy d.operator) (outputs_of d.op (slice_get g.vertices d.op)) h c m in
      record { at = i; it = d; output = h; no_later = omega arith; stands = e; is = r.stands ∙ ap (λ (z : Copy). Some z.source) r.is }
  origin_within (suc n) i (suc h) (carry t) c l e m = absurd cc
  origin_within (suc n) i zero (carry t) c l e m =
      let b = read_made i 0 (carry t) (copy t.from t.source) e refl in
      let less = b.less in
      let o = origin_within n b.at b.inner b.act (copy t.from t.source) (omega arith) b.stands b.made in
      let z = same_Some (copy t.to t.source) c m in
      record { at = o.at; it = o.it; output = o.output; no_later = (let y = o.no_later in omega arith); stands = o.stands; is = o.is ∙ ap (λ (y : Copy). Some y.source) z }

  pub origin : (i h : ℕ) (x : Act) (c : Copy) → slice_get (acts s) i ≡ Some x → slice_get (made_by g.vertices x) h ≡ Some c → Origin i c
  origin i h x c e m = origin_within (suc i) i h x c (omega arith) e m

  -- What is said of a transfer and of a placement.
  pub record OfTransfer (i : ℕ) (t : Transfer) : Type 0 where
    pub medium : Medium
    pub there : slice_get a.media t.medium ≡ Some medium
    pub from : stands_at medium t.from ≡ true
    pub to : stands_at medium t.to ≡ true
    pub fresh : is_there g a ticks (take i (acts s)) (copy t.to t.source) ≡ false

  pub of_transfer : (i : ℕ) (t : Transfer) → slice_get (acts s) i ≡ Some (carry t) → OfTransfer i t
  of_transfer i t e =
      let r = (right_at i (carry t) e).act in
      let parts = and_parts (is_carried (slice_get a.media t.medium) (len_of g.vertices t.source) t
      && have_ended (is_over t.medium) (take i (acts s)) t.start) (not (is_there g a ticks (take i (acts s)) (copy t.to t.source))) r in
      let first = and_parts (is_carried (slice_get a.media t.medium) (len_of g.vertices t.source) t) (have_ended (is_over t.medium) (take i (acts s)) t.start) parts.0 in
      by (slice_get a.media t.medium) refl first.0 (not-true (is_there g a ticks (take i (acts s)) (copy t.to t.source)) parts.1)
    where
      by : (o : Option Medium) → slice_get a.media t.medium ≡ o → is_carried o (len_of g.vertices t.source) t ≡ true
          → is_there g a ticks (take i (acts s)) (copy t.to t.source) ≡ false → OfTransfer i t
      by None e h f = absurd (false≢true h)
      by (Some m) e h f =
          let ends = and_parts (stands_at m t.from && stands_at m t.to) _ h in
          let both = and_parts (stands_at m t.from) (stands_at m t.to) ends.0 in
          record { medium = m; there = e; from = both.0; to = both.1; fresh = f }

  pub record OfRun (i : ℕ) (d : Decision) : Type 0 where
    pub vertex : Vertex
    pub there : slice_get g.vertices d.op ≡ Some vertex
    pub follows : follows_get (take i (acts s)) d.operator vertex.kind vertex.twin ≡ true
    pub low : d.operator < length a.operators
    pub fresh : list_any (runs d.op) (take i (acts s)) ≡ false

  pub of_run : (i : ℕ) (d : Decision) → slice_get (acts s) i ≡ Some (run d) → OfRun i d
  of_run i d e =
      let before = take i (acts s) in
      let r = (right_at i (run d) e).act in
      let free = and_parts _ (have_ended (is_on d.operator) (take i (acts s)) d.start) r in
      let new = and_parts _ (not (list_any (runs d.op) (take i (acts s)))) free.0 in
      let long = and_parts _ (lasts (ticks d.op d.operator) d.start d.end) new.0 in
      let low = and_parts (with_vertex (slice_get g.vertices d.op) false (λ x. follows_get (take i (acts s)) d.operator x.kind x.twin)) (nat_lt d.operator (length a.operators)) long.0 in
      by (slice_get g.vertices d.op) refl low.0 (ltb-true d.operator (length a.operators) low.1) (not-true (list_any (runs d.op) (take i (acts s))) new.1)
    where
      by : (o : Option Vertex) → slice_get g.vertices d.op ≡ o
          → with_vertex o false (λ x. follows_get (take i (acts s)) d.operator x.kind x.twin) ≡ true → d.operator < length a.operators
          → list_any (runs d.op) (take i (acts s)) ≡ false → OfRun i d
      by None e h l f = absurd (false≢true h)
      by (Some x) e h l f = record { vertex = x; there = e; follows = h; low = l; fresh = f }

  -- an operation runs once
  pub one_run : (i j : ℕ) (d e : Decision) → slice_get (acts s) i ≡ Some (run d) → slice_get (acts s) j ≡ Some (run e) → d.op ≡ e.op → i ≡ j
  one_run i j d e h k same = elim (cases_lt i j) [
    | inl l ↦ absurd (false≢true (sym (of_run j e k).fresh ∙ any_at (runs e.op) (take j (acts s)) i (run d) (take_get (acts s) j i (run d) l h) (eq-eqb d.op e.op same)))
    | inr l ↦ elim (cases_eq i j) [
      | inl z ↦ z
      | inr n ↦ absurd (false≢true (sym (of_run i d h).fresh ∙ any_at (runs d.op) (take i (acts s)) j (run e) (take_get (acts s) i j (run e) (omega arith) k) (eq-eqb e.op d.op (sym same))))
    ]
  ]

  -- no act makes what an earlier one made
  none_again : (i j h k : ℕ) (x y : Act) (c : Copy) → i < j → slice_get (acts s) i ≡ Some x → slice_get (acts s) j ≡ Some y
      → slice_get (made_by g.vertices x) h ≡ Some c → slice_get (made_by g.vertices y) k ≡ Some c → ⊥
  none_again i j h zero x (carry t) c l e d m n =
      let same : copy t.to t.source ≡ c = same_Some (copy t.to t.source) c n in
      let there = any_at (same_copy (copy t.to t.source)) (made_by g.vertices x) h c m (ap (same_copy (copy t.to t.source)) (sym same) ∙ same_copy_self (copy t.to t.source)) in
      false≢true (sym (of_transfer j t d).fresh ∙ any_at (λ y. list_any (same_copy (copy t.to t.source)) (made_by g.vertices y)) (take j (acts s)) i x (take_get (acts s) j i x l e) there)
  none_again i j h (suc k) x (carry t) c l e d m n = absurd cc
  none_again i j h k x (run d') c l e d m n =
      let o = origin i h x c e m in
      let r = from_map (copy d'.operator) (outputs_of d'.op (slice_get g.vertices d'.op)) k c n in
      let v : o.it.op ≡ d'.op = sym (output_of o.it.op (slice_get g.vertices o.it.op) o.output c.source o.is).0
      ∙ ap (λ (z : Copy). z.source.vertex) (sym r.is) ∙ (output_of d'.op (slice_get g.vertices d'.op) k r.it r.stands).0 in
      let low = o.no_later in
      let z = one_run o.at j o.it d' o.stands d v in
      omega arith

  one_output : (h k : ℕ) (x : Act) (c : Copy) → slice_get (made_by g.vertices x) h ≡ Some c → slice_get (made_by g.vertices x) k ≡ Some c → h ≡ k
  one_output zero zero (carry t) c m n = refl
  one_output zero (suc k) (carry t) c m n = absurd cc
  one_output (suc h) k (carry t) c m n = absurd cc
  one_output h k (run d) c m n =
      let x = from_map (copy d.operator) (outputs_of d.op (slice_get g.vertices d.op)) h c m in
      let y = from_map (copy d.operator) (outputs_of d.op (slice_get g.vertices d.op)) k c n in
      sym (output_of d.op (slice_get g.vertices d.op) h x.it x.stands).1 ∙ ap (λ (z : Copy). z.source.port) (x.is ∙ sym y.is) ∙ (output_of d.op (slice_get g.vertices d.op) k y.it y.stands).1

  -- each copy is made once
  pub one_maker : (i j h k : ℕ) (x y : Act) (c : Copy) → slice_get (acts s) i ≡ Some x → slice_get (acts s) j ≡ Some y
      → slice_get (made_by g.vertices x) h ≡ Some c → slice_get (made_by g.vertices y) k ≡ Some c → (i ≡ j) × (h ≡ k)
  one_maker i j h k x y c e d m n = elim (cases_lt i j) [
    | inl l ↦ absurd (none_again i j h k x y c l e d m n)
    | inr l ↦ elim (cases_eq i j) [
      | inl z ↦ (z, (let same : x ≡ y = same_Some x y (sym e ∙ ap (slice_get (acts s)) z ∙ d) in one_output h k x c m (ap (λ (w : Act). slice_get (made_by g.vertices w) k) same ∙ n)))
      | inr other ↦ absurd (none_again j i k h y x c (omega arith) d e n m)
    ]
  ]

  -- The copies, by number.
  pub copy_at : (i h : ℕ) (x : Act) (c : Copy) → slice_get (acts s) i ≡ Some x → slice_get (made_by g.vertices x) h ≡ Some c
      → slice_get (copies g a s) (starts (made_by g.vertices) (acts s) i + h) ≡ Some c
  copy_at i h x c e m = flat_at (made_by g.vertices) (acts s) i h x c e m

  one_copy : (b e : ℕ) (c : Copy) → slice_get (copies g a s) b ≡ Some c → slice_get (copies g a s) e ≡ Some c → b ≡ e
  one_copy b e c h k =
      let x = in_flat (made_by g.vertices) (acts s) b c h in
      let y = in_flat (made_by g.vertices) (acts s) e c k in
      let o = one_maker x.at y.at x.inner y.inner x.it y.it c x.is_it y.is_it x.stands y.stands in
      x.is ∙ (λ i. starts (made_by g.vertices) (acts s) (o.0 i) + o.1 i) ∙ sym y.is

  pub buffer_is : (b : ℕ) (c : Copy) → slice_get (copies g a s) b ≡ Some c → buffer_for g a s c ≡ b
  buffer_is b c e =
      let f = first (same_copy c) (copies g a s) b c e (same_copy_self c) in
      one_copy (buffer_for g a s c) b c (f.stands ∙ ap (λ (z : Copy). Some z) (sym (copy_is c f.it f.passes))) e

  -- of what an act makes, and of what it reads
  pub made_buffer : (i h : ℕ) (x : Act) (c : Copy) → slice_get (acts s) i ≡ Some x → slice_get (made_by g.vertices x) h ≡ Some c → slice_get (copies g a s) (buffer_for g a s c) ≡ Some c
  made_buffer i h x c e m = ap (slice_get (copies g a s)) (buffer_is (starts (made_by g.vertices) (acts s) i + h) c (copy_at i h x c e m)) ∙ copy_at i h x c e m

  pub read_buffer : (i k : ℕ) (x : Act) (c : Copy) → slice_get (acts s) i ≡ Some x → slice_get (read_by g.vertices x) k ≡ Some c → slice_get (copies g a s) (buffer_for g a s c) ≡ Some c
  read_buffer i k x c e r = let b = read_made i k x c e r in made_buffer b.at b.inner b.act c b.stands b.made

  -- what an act reads has a lower number than what it makes
  pub read_lower : (i k h : ℕ) (x : Act) (c d : Copy) → slice_get (acts s) i ≡ Some x → slice_get (read_by g.vertices x) k ≡ Some c
      → slice_get (made_by g.vertices x) h ≡ Some d → buffer_for g a s c < buffer_for g a s d
  read_lower i k h x c d e r m =
      let b = read_made i k x c e r in
      let y = buffer_is (starts (made_by g.vertices) (acts s) b.at + b.inner) c (copy_at b.at b.inner b.act c b.stands b.made) in
      let z = buffer_is (starts (made_by g.vertices) (acts s) i + h) d (copy_at i h x d e m) in
      let l = starts_rise (made_by g.vertices) (acts s) b.at i b.inner h b.act b.stands b.less (slice_get_within (made_by g.vertices b.act) b.inner c b.made) in
      omega arith
