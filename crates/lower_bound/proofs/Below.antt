-- The bound is below every valid schedule.
use Rattle.std.proofs.Common.{
  ◌≡◌,
  ℕ,
  zero,
  suc,
  ◌+◌,
  ◌-◌,
  ◌*◌,
  ◌/◌,
  ◌<◌,
  ◌≤◌,
  Bool,
  true,
  false,
  cond,
  ◌&&◌,
  ◌||◌,
  nat_eq,
  List,
  [],
  ◌∷◌,
  map,
  max,
  length,
  Option,
  Some,
  None,
  refl,
  sym,
  ap,
  arith,
  inl,
  inr,
  ◌⊎◌,
  ◌∙◌,
}
use Rattle.std.specs.Prelude.{nat_lt, is_none, is_some, count_by, filter, sum_by}
use Rattle.std.specs.List.{list_any, list_all, range_with_len}
use Rattle.std.specs.Cmp.Derive.{both_true}
use Rattle.std.proofs.Math.Nat.{div-lt_iff_lt-mul}
use Rattle.std.proofs.lemmas.Bool.{false≢true, and_parts, or_cases, lt-ltb, ltb-false, eqb-true, eq-eqb, cases_lt, or_left, or_right}
use Rattle.std.proofs.lemmas.List.Sums.{length-filter, sum_by-cons}
use Rattle.self_timed.specs.Graph.{Graph}
use Rattle.self_timed.specs.Archi.{Architecture}
use Rattle.self_timed.specs.declared.Schedule.{Schedule}
use Rattle.self_timed.specs.Acts.{Act, acts, end_of, runs, latest, length_of}
use Rattle.self_timed.specs.ScheduleValid.{are_right, are_placed, is_valid}
use Rattle.lower_bound.specs.Bound.{divided_up, least, carried_to, takes_time_on, stands_only, work_only, may_work, shared_work}
use Rattle.lower_bound.specs.Laws.{NoValidScheduleIsShorter}
use Rattle.lower_bound.proofs.Parts.{Each, one_of, both_of, least_low}
use Rattle.lower_bound.proofs.Late.{IsLate, all_late}
use Rattle.lower_bound.proofs.OperatorWork.{total, work_low}
use Rattle.syn_base.specs.Numbers.{greatest}

ends_low : (xs : List Act) → Each (λ y. end_of y ≤ latest xs) xs
ends_low [] = tt
ends_low (x ∷ xs) = ((omega arith), more xs (ends_low xs))
  where
    more : (ys : List Act) → Each (λ y. end_of y ≤ latest xs) ys → Each (λ y. end_of y ≤ max (end_of x) (latest xs)) ys
    more [] all = tt
    more (y ∷ ys) all = ((let l = all.0 in omega arith), more ys all.1)

any_in_range : (f : ℕ → Bool) (a n v : ℕ) → a ≤ v → v < a + n → f v ≡ true → list_any f (range_with_len a n) ≡ true
any_in_range f a zero v l u h = absurd (omega arith)
any_in_range f a (suc n) v l u h = elim (cases_lt a v) [
  | inl low ↦ or_right (f a) (list_any f (range_with_len (a + 1) n)) (any_in_range f (a + 1) n v (omega arith) (omega arith) h)
  | inr far ↦ or_left (f a) (list_any f (range_with_len (a + 1) n)) (let same : a ≡ v = omega arith in ap f same ∙ h)
]

pub all_in_range : (f : ℕ → Bool) (a n v : ℕ) → list_all f (range_with_len a n) ≡ true → a ≤ v → v < a + n → f v ≡ true
all_in_range f a zero v h l u = absurd (omega arith)
all_in_range f a (suc n) v h l u =
    let both = and_parts (f a) (list_all f (range_with_len (a + 1) n)) h in
    elim (cases_lt a v) [
      | inl low ↦ all_in_range f (a + 1) n v both.1 (omega arith) (omega arith)
      | inr far ↦ (let same : v ≡ a = omega arith in ap f same ∙ both.0)
    ]

any_of_filter : (test p : ℕ → Bool) (xs : List ℕ) → ((v : ℕ) → test v ≡ true → p v ≡ true) → list_any test xs ≡ true → list_any test (filter p xs) ≡ true
any_of_filter test p [] k h = h
any_of_filter test p (x ∷ xs) k h = by (p x) refl (any_of_filter test p xs k)
  where
    by : (b : Bool) → p x ≡ b → (list_any test xs ≡ true → list_any test (filter p xs) ≡ true) → list_any test (cond b (x ∷ filter p xs) (filter p xs)) ≡ true
    by true e later = elim (or_cases (test x) (list_any test xs) h) [
      | inl i ↦ or_left (test x) (list_any test (filter p xs)) i
      | inr i ↦ or_right (test x) (list_any test (filter p xs)) (later i)
    ]
    by false e later = elim (or_cases (test x) (list_any test xs) h) [
      | inl i ↦ absurd (let y = k x i in cc)
      | inr i ↦ later i
    ]

all_of_filter : (P : ℕ → Type 0) (p : ℕ → Bool) (a n : ℕ) → ((v : ℕ) → v < a + n → P v) → Each P (filter p (range_with_len a n))
all_of_filter P p a zero h = tt
all_of_filter P p a (suc n) h = by (p a) (all_of_filter P p (a + 1) n (λ v l. h v (omega arith)))
  where
    by : (b : Bool) → Each P (filter p (range_with_len (a + 1) n)) → Each P (cond b (a ∷ filter p (range_with_len (a + 1) n)) (filter p (range_with_len (a + 1) n)))
    by true all = (h a (omega arith), all)
    by false all = all

sum_is_total : (f : ℕ → ℕ) (xs : List ℕ) → sum_by f xs ≡ total f xs
sum_is_total f [] = refl
sum_is_total f (x ∷ xs) = let e = sum_by-cons f x xs in let r = sum_is_total f xs in omega arith

sum_of_filter : (f : ℕ → ℕ) (p : ℕ → Bool) (xs : List ℕ) → sum_by f (filter p xs) ≡ total (λ v. cond (p v) (f v) 0) xs
sum_of_filter f p [] = refl
sum_of_filter f p (x ∷ xs) = by (p x) (sum_of_filter f p xs)
  where
    by : (b : Bool) → sum_by f (filter p xs) ≡ total (λ v. cond (p v) (f v) 0) xs → sum_by f (cond b (x ∷ filter p xs) (filter p xs)) ≡ cond b (f x) 0 + total (λ v. cond (p v) (f v) 0) xs
    by true e = let c = sum_by-cons f x (filter p xs) in omega arith
    by false e = omega arith

greatest_in_range : (f : ℕ → ℕ) (a n date : ℕ) → ((v : ℕ) → v < a + n → f v ≤ date) → greatest (map f (range_with_len a n)) ≤ date
greatest_in_range f a zero date h = omega arith
greatest_in_range f a (suc n) date h =
    let l = h a (omega arith) in
    let r = greatest_in_range f (a + 1) n date (λ v m. h v (omega arith)) in
    omega arith

divided_low : (n k j date : ℕ) → n ≤ j * date → j ≤ k → 1 ≤ k → divided_up n k ≤ date
divided_low n k j date l m o =
    let e : (suc date) * k ≡ date * k + k = grind arith in
    let f : j * date ≤ date * k = grind arith in
    let r = (div-lt_iff_lt-mul {k = k} {x = n + (k - 1)} {y = suc date} (omega arith)).1 (omega arith) in
    omega arith

module _ (g : Graph) (a : Architecture) (ticks : ℕ → ℕ → Option ℕ) (s : Schedule) (right : are_right g a ticks [] (acts s) ≡ true) (placed : are_placed g a ticks (acts s) ≡ true) where
  chain_low : (v : ℕ) → v < 0 + length g.vertices → carried_to (length a.operators) ticks g.vertices a.media v ≤ length_of s
  chain_low v l =
      let late = IsLate g a ticks in
      let r = one_of (λ y. late y × (end_of y ≤ latest (acts s))) (runs v) (acts s)
      (both_of late (λ y. end_of y ≤ latest (acts s)) (acts s) (all_late g a ticks [] (acts s) tt right) (ends_low (acts s)))
      (all_in_range (λ v. list_any (runs v) (acts s)) 0 (length g.vertices) v placed (omega arith) l) in
      let m = r.1.0.ran (length g.vertices) v r.2 in
      let k = r.1.1 in
      omega arith

  least_on : (v o t : ℕ) → o < 0 + length a.operators → ticks v o ≡ Some t → least (length a.operators) ticks v ≤ t
  least_on v o t l e = least_low (ticks v) 0 (length a.operators) o t (omega arith) l e

  shared_low : shared_work (length a.operators) ticks (length g.vertices) ≤ length_of s
  shared_low =
      let work = may_work (length a.operators) ticks (length g.vertices) in
      let w = work_low g a ticks (least (length a.operators) ticks) (filter work (range_with_len 0 (length a.operators))) (acts s) (length g.vertices)
      (all_of_filter (λ o. (v t : ℕ) → ticks v o ≡ Some t → least (length a.operators) ticks v ≤ t) work 0 (length a.operators) (λ o l v t e. least_on v o t l e)) right placed only in
      let c = length-filter work (range_with_len 0 (length a.operators)) in
      let e = sum_is_total (least (length a.operators) ticks) (range_with_len 0 (length g.vertices)) in
      divided_low (sum_by (least (length a.operators) ticks) (range_with_len 0 (length g.vertices))) (max (count_by work (range_with_len 0 (length a.operators))) 1)
      (length (filter work (range_with_len 0 (length a.operators)))) (length_of s) (omega arith) (omega arith) (omega arith)
    where
      only : (v o t : ℕ) → v < length g.vertices → o < length a.operators → ticks v o ≡ Some t
          → (list_any (nat_eq o) (filter (may_work (length a.operators) ticks (length g.vertices)) (range_with_len 0 (length a.operators))) ≡ true) ⊎ (least (length a.operators) ticks v ≡ 0)
      only v o t l m e = by (nat_lt 0 (least (length a.operators) ticks v)) refl
        where
          by : (b : Bool) → nat_lt 0 (least (length a.operators) ticks v) ≡ b
              → (list_any (nat_eq o) (filter (may_work (length a.operators) ticks (length g.vertices)) (range_with_len 0 (length a.operators))) ≡ true) ⊎ (least (length a.operators) ticks v ≡ 0)
          by false n = inr (let r = ltb-false 0 (least (length a.operators) ticks v) n in omega arith)
          by true n =
              let works : may_work (length a.operators) ticks (length g.vertices) o ≡ true
              = any_in_range (takes_time_on (length a.operators) ticks o) 0 (length g.vertices) v (omega arith) (omega arith) (both_true n (ap (λ (x : Option ℕ). is_some x) e)) in
              inl
              (any_of_filter (nat_eq o) (may_work (length a.operators) ticks (length g.vertices)) (range_with_len 0 (length a.operators))
              (λ p q. ap (may_work (length a.operators) ticks (length g.vertices)) (let z = eqb-true o p q in let y : p ≡ o = omega arith in y) ∙ works)
              (any_in_range (nat_eq o) 0 (length a.operators) o (omega arith) (omega arith) (eq-eqb o o refl)))

  alone_low : (o : ℕ) → o < 0 + length a.operators → work_only (length a.operators) ticks (length g.vertices) o ≤ length_of s
  alone_low o l =
      let w = work_low g a ticks weight (o ∷ []) (acts s) (length g.vertices) ((λ v t e. low v t e (stands_only (length a.operators) ticks o v)), tt) right placed only in
      let e = sum_of_filter (least (length a.operators) ticks) (stands_only (length a.operators) ticks o) (range_with_len 0 (length g.vertices)) in
      omega arith
    where
      weight : ℕ → ℕ
      weight v = cond (stands_only (length a.operators) ticks o v) (least (length a.operators) ticks v) 0

      low : (v t : ℕ) → ticks v o ≡ Some t → (b : Bool) → cond b (least (length a.operators) ticks v) 0 ≤ t
      low v t e true = least_on v o t l e
      low v t e false = omega arith

      only : (v p t : ℕ) → v < length g.vertices → p < length a.operators → ticks v p ≡ Some t → (list_any (nat_eq p) (o ∷ []) ≡ true) ⊎ (weight v ≡ 0)
      only v p t u m e = by (stands_only (length a.operators) ticks o v) refl
        where
          by : (b : Bool) → stands_only (length a.operators) ticks o v ≡ b → (list_any (nat_eq p) (o ∷ []) ≡ true) ⊎ (cond b (least (length a.operators) ticks v) 0 ≡ 0)
          by false n = inr refl
          by true n = inl
              (or_left (nat_eq p o) false
              (elim (or_cases (nat_eq p o) (is_none (ticks v p)) (all_in_range (λ p. nat_eq p o || is_none (ticks v p)) 0 (length a.operators) p n (omega arith) (omega arith))) [
                | inl i ↦ i
                | inr i ↦ absurd (false≢true (sym (ap (λ (x : Option ℕ). is_none x) e) ∙ i))
              ]))

pub no_valid_schedule_is_shorter : NoValidScheduleIsShorter
no_valid_schedule_is_shorter g a ticks s h =
    let both = and_parts (are_right g a ticks [] (acts s)) (are_placed g a ticks (acts s)) h in
    let chain = greatest_in_range (carried_to (length a.operators) ticks g.vertices a.media) 0 (length g.vertices) (length_of s) (λ v l. chain_low g a ticks s both.0 both.1 v l) in
    let shared = shared_low g a ticks s both.0 both.1 in
    let alone = greatest_in_range (work_only (length a.operators) ticks (length g.vertices)) 0 (length a.operators) (length_of s) (λ o l. alone_low g a ticks s both.0 both.1 o l) in
    omega arith
