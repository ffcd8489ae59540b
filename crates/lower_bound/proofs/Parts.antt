-- What a right act keeps, part by part.
use Rattle.std.proofs.Common.{
  ◌≡◌,
  ℕ,
  zero,
  suc,
  ◌+◌,
  ◌*◌,
  ◌<◌,
  ◌≤◌,
  Bool,
  true,
  false,
  ◌&&◌,
  ◌||◌,
  not,
  ◌==◌,
  nat_eq,
  List,
  [],
  ◌∷◌,
  ◌++◌,
  map,
  length,
  min,
  Option,
  Some,
  None,
  refl,
  sym,
  ap,
  arith,
  inl,
  inr,
  ◌∙◌,
}
use Rattle.std.specs.Prelude.{slice_get, nat_le, nat_lt, unwrap_or}
use Rattle.std.specs.List.{list_any, list_all, range_with_len}
use Rattle.std.proofs.lemmas.Bool.{false≢true, and_parts, or_cases, leb-true, ltb-true, eqb-true, cases_lt}
use Rattle.syn_base.specs.Numbers.{lesser}
use Rattle.self_timed.specs.declared.Vertex.{Vertex}
use Rattle.self_timed.specs.Graph.{Graph, with_vertex, len_of}
use Rattle.self_timed.specs.declared.Medium.{Medium}
use Rattle.self_timed.specs.Archi.{Architecture, stands_at}
use Rattle.self_timed.specs.Table.{least_of}
use Rattle.self_timed.specs.declared.Transfer.{Transfer}
use Rattle.self_timed.specs.declared.Decision.{Decision}
use Rattle.self_timed.specs.Acts.{Act, carry, run, end_of, is_on, is_over, runs, Copy, copy, sources_of}
use Rattle.self_timed.specs.ScheduleValid.{have_ended, lasts, is_carried, follows_get, is_held, is_there, is_transfer, is_placement, is_right}

-- what holds of each element, one after the other
abbrev pub Each : {A : Type 0} → (A → Type 0) → List A → Type 0
Each P [] = Unit {0}
Each P (x ∷ xs) = P x × Each P xs

-- an element that passes a test, with what holds of all
pub one_of : {A : Type 0} (P : A → Type 0) (test : A → Bool) (xs : List A) → Each P xs → list_any test xs ≡ true → (y : A) × P y × (test y ≡ true)
one_of P test [] all h = absurd (false≢true h)
one_of P test (x ∷ xs) all h = elim (or_cases (test x) (list_any test xs) h) [ inl e ↦ (x, all.0, e) | inr e ↦ one_of P test xs all.1 e ]

pub both_of : {A : Type 0} (P Q : A → Type 0) (xs : List A) → Each P xs → Each Q xs → Each (λ x. P x × Q x) xs
both_of P Q [] p q = tt
both_of P Q (x ∷ xs) p q = ((p.0, q.0), both_of P Q xs p.1 q.1)

pub all_more : {A : Type 0} (P : A → Type 0) (xs : List A) (y : A) → Each P xs → P y → Each P (xs ++ y ∷ [])
all_more P [] y all h = (h, tt)
all_more P (x ∷ xs) y all h = (all.0, all_more P xs y all.1 h)

-- those that pass have ended
pub ended : (test : Act → Bool) (before : List Act) (date : ℕ) → have_ended test before date ≡ true → Each (λ y. test y ≡ true → end_of y ≤ date) before
ended test [] date h = tt
ended test (y ∷ ys) date h =
    let both = and_parts (not (test y) || nat_le (end_of y) date) (have_ended test ys date) h in
    (by (test y) both.0, ended test ys date both.1)
  where
    by : (b : Bool) → (not b || nat_le (end_of y) date) ≡ true → b ≡ true → end_of y ≤ date
    by true k e = leb-true (end_of y) date k
    by false k e = absurd (false≢true e)

module _ (g : Graph) (a : Architecture) (ticks : ℕ → ℕ → Option ℕ) where
  pub record RightRun (before : List Act) (d : Decision) : Type 0 where
    pub it : Vertex
    pub is : slice_get g.vertices d.op ≡ Some it
    pub follows : follows_get before d.operator it.kind it.twin ≡ true
    pub below : d.operator < length a.operators
    pub time : ℕ
    pub entry : ticks d.op d.operator ≡ Some time
    pub long : d.end ≡ d.start + time
    pub free : have_ended (is_on d.operator) before d.start ≡ true
    pub held : list_all (is_held g a ticks before d.start) (map (copy d.operator) (sources_of (Some it))) ≡ true

  pub right_run : (before : List Act) (d : Decision) → is_right g a ticks before (run d) ≡ true → RightRun before d
  right_run before d h =
      let follows = with_vertex (slice_get g.vertices d.op) false (λ x. follows_get before d.operator x.kind x.twin) in
      let below = nat_lt d.operator (length a.operators) in
      let long = lasts (ticks d.op d.operator) d.start d.end in
      let once = not (list_any (runs d.op) before) in
      let free = have_ended (is_on d.operator) before d.start in
      let p = and_parts (is_placement g a ticks before d) (list_all (is_held g a ticks before d.start) (map (copy d.operator) (sources_of (slice_get g.vertices d.op)))) h in
      let q = and_parts (follows && below && long && once) free p.0 in
      let r = and_parts (follows && below && long) once q.0 in
      let s = and_parts (follows && below) long r.0 in
      let t = and_parts follows below s.0 in
      by (slice_get g.vertices d.op) refl t.0 p.1 (ltb-true d.operator (length a.operators) t.1) (ticks d.op d.operator) refl s.1 q.1
    where
      by : (o : Option Vertex) → slice_get g.vertices d.op ≡ o → with_vertex o false (λ x. follows_get before d.operator x.kind x.twin) ≡ true
          → list_all (is_held g a ticks before d.start) (map (copy d.operator) (sources_of o)) ≡ true → d.operator < length a.operators
          → (e : Option ℕ) → ticks d.op d.operator ≡ e → lasts e d.start d.end ≡ true → have_ended (is_on d.operator) before d.start ≡ true → RightRun before d
      by None is f held below e entry long free = absurd (false≢true f)
      by (Some x) is f held below None entry long free = absurd (false≢true long)
      by (Some x) is f held below (Some n) entry long free = record {
        it = x;
        is = is;
        follows = f;
        below = below;
        time = n;
        entry = entry;
        long = eqb-true d.end (d.start + n) long;
        free = free;
        held = held;
      }

  pub record RightCarry (before : List Act) (t : Transfer) : Type 0 where
    pub later : t.start ≤ t.end
    pub free : have_ended (is_over t.medium) before t.start ≡ true
    pub held : is_held g a ticks before t.start (copy t.from t.source) ≡ true

  pub right_carry : (before : List Act) (t : Transfer) → is_right g a ticks before (carry t) ≡ true → RightCarry before t
  right_carry before t h =
      let carried = is_carried (slice_get a.media t.medium) (len_of g.vertices t.source) t in
      let free = have_ended (is_over t.medium) before t.start in
      let new = not (is_there g a ticks before (copy t.to t.source)) in
      let p = and_parts (is_transfer g a ticks before t) (list_all (is_held g a ticks before t.start) (copy t.from t.source ∷ [])) h in
      let q = and_parts (carried && free) new p.0 in
      let r = and_parts carried free q.0 in
      record {
        later = by (slice_get a.media t.medium) r.0;
        free = r.1;
        held = (and_parts (is_held g a ticks before t.start (copy t.from t.source)) true p.1).0;
      }
    where
      by : (o : Option Medium) → is_carried o (len_of g.vertices t.source) t ≡ true → t.start ≤ t.end
      by None h = absurd (false≢true h)
      by (Some m) h =
          let both = and_parts (stands_at m t.from && stands_at m t.to) (t.end == t.start + (m.fixed + len_of g.vertices t.source * m.per)) h in
          let e = eqb-true t.end (t.start + (m.fixed + len_of g.vertices t.source * m.per)) both.1 in
          omega arith

-- no operation lasts less than its least duration
pub least_low : (f : ℕ → Option ℕ) (a n o t : ℕ) → a ≤ o → o < a + n → f o ≡ Some t → unwrap_or (least_of (map f (range_with_len a n))) 0 ≤ t
least_low f a n o t l u e = let r = least a n l u in (let i = ap (λ x. unwrap_or x 0) r.1 in let m = r.2 in omega arith)
  where
    here : (x : Option ℕ) → (m : ℕ) × (lesser (Some t) x ≡ Some m) × (m ≤ t)
    here None = (t, refl, (omega arith))
    here (Some m) = (min t m, refl, (omega arith))

    later : (x y : Option ℕ) (m : ℕ) → y ≡ Some m → m ≤ t → (k : ℕ) × (lesser x y ≡ Some k) × (k ≤ t)
    later None y m i l = (m, i, l)
    later (Some x) y m i l = (min x m, ap (lesser (Some x)) i, (omega arith))

    least : (a n : ℕ) → a ≤ o → o < a + n → (m : ℕ) × (least_of (map f (range_with_len a n)) ≡ Some m) × (m ≤ t)
    least a zero l u = absurd (omega arith)
    least a (suc n) l u = elim (cases_lt a o) [
      | inl low ↦ (let r = least (a + 1) n (omega arith) (omega arith) in later (f a) (least_of (map f (range_with_len (a + 1) n))) r.0 r.1 r.2)
      | inr far ↦
          (let same : a ≡ o = omega arith in
          let r = here (least_of (map f (range_with_len (a + 1) n))) in
          (r.0, ap (λ (x : Option ℕ). lesser x (least_of (map f (range_with_len (a + 1) n)))) (ap f same ∙ e) ∙ r.1, r.2))
    ]
