-- In a lane of a valid schedule's trace nothing overlaps.
use Rattle.std.proofs.Common.{◌≡◌, ℕ, zero, suc, ◌+◌, ◌<◌, ◌≤◌, Bool, true, false, ◌&&◌, ◌||◌, not, List, [], ◌∷◌, ◌++◌, length, map, take, Option, Some, refl, sym, ap, arith, ◌∙◌, nat_eq, eq-eqb}
use Rattle.std.specs.Prelude.{slice_get, nat_lt, nat_le}
use Rattle.std.specs.List.{list_all, list_any}
use Rattle.std.proofs.lemmas.Bool.{and_parts, ltb-true, leb-true}
use Rattle.std.proofs.lemmas.Option.{same_Some}
use Rattle.std.proofs.lemmas.List.{append-nil, append_assoc}
use Rattle.self_timed.specs.Graph.{Graph, with_vertex, len_of}
use Rattle.self_timed.specs.Archi.{Architecture, is_archi, is_medium, are_bounded, are_distinct, are_joined, names_of, connections_in}
use Rattle.self_timed.specs.declared.Transfer.{Transfer}
use Rattle.self_timed.specs.declared.Decision.{Decision}
use Rattle.self_timed.specs.declared.Schedule.{Schedule}
use Rattle.self_timed.specs.Acts.{Act, carry, run, acts, start_of, end_of, is_over, is_on, runs, copy, read_by}
use Rattle.self_timed.specs.Tight.{same_line}
use Rattle.self_timed.specs.ScheduleValid.{is_valid, is_right, are_right, are_placed, is_act, is_held, is_there, have_ended, lasts as long_as, is_carried, follows_get}
use Rattle.trace_events.specs.Events.{Slice}
use Rattle.trace_events.specs.Trace.{lane_of, slice_of, chart_moment}
use Rattle.trace_events.specs.Shown.{OneAfterAnother}
use Rattle.trace_events.proofs.Slices.{each_act_once}

all_at : {A : Type 0} (p : A → Bool) (xs : List A) → list_all p xs ≡ true → (i : ℕ) (x : A) → slice_get xs i ≡ Some x → p x ≡ true
all_at p [] h i x e = absurd cc
all_at p (y ∷ xs) h zero x e = ap p (sym (same_Some y x e)) ∙ (and_parts (p y) (list_all p xs) h).0
all_at p (y ∷ xs) h (suc i) x e = all_at p xs (and_parts (p y) (list_all p xs) h).1 i x e

take_get : {A : Type 0} (xs : List A) (n i : ℕ) (x : A) → i < n → slice_get xs i ≡ Some x → slice_get (take n xs) i ≡ Some x
take_get xs zero i x h e = absurd (omega arith)
take_get [] (suc n) i x h e = absurd cc
take_get (y ∷ xs) (suc n) zero x h e = e
take_get (y ∷ xs) (suc n) (suc i) x h e = take_get xs n i x (omega arith) e

pub record Mapped {A B : Type 0} (f : A → B) (xs : List A) (k : ℕ) (y : B) : Type 0 where
  pub it : A
  pub stands : slice_get xs k ≡ Some it
  pub is : f it ≡ y

pub mapped : {A B : Type 0} (f : A → B) (xs : List A) (k : ℕ) (y : B) → slice_get (map f xs) k ≡ Some y → Mapped f xs k y
mapped f [] k y e = absurd cc
mapped f (x ∷ xs) zero y e = record { it = x; stands = refl; is = same_Some (f x) y e }
mapped f (x ∷ xs) (suc k) y e = let r = mapped f xs k y e in record { it = r.it; stands = r.stands; is = r.is }

-- of a test or a bound, where the test passes, the bound holds
bound_of : (b : Bool) (m n : ℕ) → (not b || nat_le m n) ≡ true → b ≡ true → m ≤ n
bound_of true m n h e = leb-true m n h
bound_of false m n h e = absurd cc

module _ (g : Graph) (a : Architecture) (ticks : ℕ → ℕ → Option ℕ) where
  right_behind : (before xs : List Act) (i : ℕ) (x : Act) → are_right g a ticks before xs ≡ true → slice_get xs i ≡ Some x → is_right g a ticks (before ++ take i xs) x ≡ true
  right_behind before [] i x h e = absurd cc
  right_behind before (y ∷ xs) zero x h e =
      (λ j. is_right g a ticks (append-nil before j) (sym (same_Some y x e) j)) ∙ (and_parts (is_right g a ticks before y) (are_right g a ticks (before ++ y ∷ []) xs) h).0
  right_behind before (y ∷ xs) (suc i) x h e =
      ap (λ (l : List Act). is_right g a ticks l x) (sym (append_assoc before (y ∷ []) (take i xs)))
      ∙ right_behind (before ++ y ∷ []) xs i x (and_parts (is_right g a ticks before y) (are_right g a ticks (before ++ y ∷ []) xs) h).1 e

  -- each act is right after those before it
  pub act_at : (s : Schedule) → is_valid g a ticks s ≡ true → (i : ℕ) (x : Act) → slice_get (acts s) i ≡ Some x → is_act g a ticks (take i (acts s)) x ≡ true
  act_at s valid i x e =
      let all = (and_parts (are_right g a ticks [] (acts s)) (are_placed g a ticks (acts s)) valid).0 in
      (and_parts (is_act g a ticks (take i (acts s)) x) (list_all (is_held g a ticks (take i (acts s)) (start_of x)) (read_by g.vertices x)) (right_behind [] (acts s) i x all e)).0

  -- the operator of an operation is there
  on_operator : (before : List Act) (d : Decision) → is_act g a ticks before (run d) ≡ true → d.operator < length a.operators
  on_operator before d h =
      let first = with_vertex (slice_get g.vertices d.op) false (λ x. follows_get before d.operator x.kind x.twin) in
      let second = nat_lt d.operator (length a.operators) in
      let third = long_as (ticks d.op d.operator) d.start d.end in
      let fourth = not (list_any (runs d.op) before) in
      let fifth = have_ended (is_on d.operator) before d.start in
      let four = (and_parts (first && second && third && fourth) fifth h).0 in
      let three = (and_parts (first && second && third) fourth four).0 in
      let two = (and_parts (first && second) third three).0 in
      ltb-true d.operator (length a.operators) (and_parts first second two).1

  free_operator : (before : List Act) (d : Decision) → is_act g a ticks before (run d) ≡ true → have_ended (is_on d.operator) before d.start ≡ true
  free_operator before d h =
      let first = with_vertex (slice_get g.vertices d.op) false (λ x. follows_get before d.operator x.kind x.twin) in
      let second = nat_lt d.operator (length a.operators) in
      let third = long_as (ticks d.op d.operator) d.start d.end in
      let fourth = not (list_any (runs d.op) before) in
      (and_parts (first && second && third && fourth) (have_ended (is_on d.operator) before d.start) h).1

  free_medium : (before : List Act) (t : Transfer) → is_act g a ticks before (carry t) ≡ true → have_ended (is_over t.medium) before t.start ≡ true
  free_medium before t h =
      let first = is_carried (slice_get a.media t.medium) (len_of g.vertices t.source) t in
      let second = have_ended (is_over t.medium) before t.start in
      let third = not (is_there g a ticks before (copy t.to t.source)) in
      (and_parts first second (and_parts (first && second) third h).0).1

  -- an act that stood before another one in its lane has ended when that one starts
  ended : length a.operators ≤ 16 → (earlier before : List Act) (x y : Act) (k : ℕ) → slice_get before k ≡ Some x
      → is_act g a ticks earlier x ≡ true → is_act g a ticks before y ≡ true → lane_of x ≡ lane_of y → end_of x ≤ start_of y
  ended few earlier before (run c) (run d) k e p q same =
      let at : c.operator ≡ d.operator = omega arith in
      bound_of (nat_eq c.operator d.operator) c.end d.start
      (all_at (λ z. not (is_on d.operator z) || nat_le (end_of z) d.start) before (free_operator before d q) k (run c) e)
      (eq-eqb c.operator d.operator at)
  ended few earlier before (carry u) (carry t) k e p q same =
      let at : u.medium ≡ t.medium = omega arith in
      bound_of (nat_eq u.medium t.medium) u.end t.start
      (all_at (λ z. not (is_over t.medium z) || nat_le (end_of z) t.start) before (free_medium before t q) k (carry u) e)
      (eq-eqb u.medium t.medium at)
  ended few earlier before (run c) (carry t) k e p q same = let low = on_operator earlier c p in absurd (omega arith)
  ended few earlier before (carry u) (run d) k e p q same = let low = on_operator before d q in absurd (omega arith)

  -- acts of one lane are in one line
  pub in_line : length a.operators ≤ 16 → (p q : List Act) (x y : Act) → is_act g a ticks p x ≡ true → is_act g a ticks q y ≡ true → lane_of x ≡ lane_of y → same_line y x ≡ true
  in_line few p q (run c) (run d) h k same = let at : c.operator ≡ d.operator = omega arith in eq-eqb c.operator d.operator at
  in_line few p q (carry u) (carry t) h k same = let at : u.medium ≡ t.medium = omega arith in eq-eqb u.medium t.medium at
  in_line few p q (run c) (carry t) h k same = let low = on_operator p c h in absurd (omega arith)
  in_line few p q (carry u) (run d) h k same = let low = on_operator q d k in absurd (omega arith)

record AreFew (a : Architecture) : Type 0 where
  operators : length a.operators ≤ 16
  media : length a.media ≤ 16

are_few : (a : Architecture) → is_archi a.operators a.media ≡ true → AreFew a
are_few a h =
    let bounded = are_bounded a.operators a.media in
    let media = list_all (is_medium (length a.operators)) a.media in
    let distinct = are_distinct (names_of a.operators a.media) in
    let joined = are_joined (length a.operators) a.media in
    let all = (and_parts bounded media (and_parts (bounded && media) distinct (and_parts (bounded && media && distinct) joined h).0).0).0 in
    let first = nat_le 1 (length a.operators) in
    let second = nat_le (length a.operators) 16 in
    let third = nat_le (length a.media) 16 in
    let fourth = nat_le (connections_in a.media) 64 in
    let three = (and_parts (first && second && third) fourth all).0 in
    record {
      operators = leb-true (length a.operators) 16 (and_parts first second (and_parts (first && second) third three).0).1;
      media = leb-true (length a.media) 16 (and_parts (first && second) third three).1;
    }

pub few_operators : (a : Architecture) → is_archi a.operators a.media ≡ true → length a.operators ≤ 16
few_operators a h = (are_few a h).operators

pub few_media : (a : Architecture) → is_archi a.operators a.media ≡ true → length a.media ≤ 16
few_media a h = (are_few a h).media

pub one_after_another : OneAfterAnother
one_after_another g a ticks s archi valid i j x y less d e same =
    let f = λ (z : Act). slice_of g.vertices a.operators (chart_moment z) z in
    let p = mapped f (acts s) i x (ap (λ (l : List Slice). slice_get l i) (sym (each_act_once g a s)) ∙ d) in
    let q = mapped f (acts s) j y (ap (λ (l : List Slice). slice_get l j) (sym (each_act_once g a s)) ∙ e) in
    let lanes : lane_of p.it ≡ lane_of q.it = ap (λ (z : Slice). z.lane) p.is ∙ same ∙ ap (λ (z : Slice). z.lane) (sym q.is) in
    let ends = ended g a ticks (few_operators a archi) (take i (acts s)) (take j (acts s)) p.it q.it i (take_get (acts s) j i p.it less p.stands)
    (act_at g a ticks s valid i p.it p.stands) (act_at g a ticks s valid j q.it q.stands) lanes in
    let first = ap (λ (z : Slice). z.moment.end) p.is in
    let second = ap (λ (z : Slice). z.moment.start) q.is in
    omega arith
