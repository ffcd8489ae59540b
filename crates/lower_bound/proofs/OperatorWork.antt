-- What operators have to do: no operator works longer than a valid schedule lasts.
use Rattle.std.proofs.Common.{
  ◌≡◌,
  ℕ,
  zero,
  suc,
  ◌+◌,
  ◌*◌,
  ◌<◌,
  ◌≤◌,
  Bool,
  true,
  false,
  cond,
  ◌&&◌,
  ◌||◌,
  not,
  nat_eq,
  List,
  [],
  ◌∷◌,
  ◌++◌,
  map,
  max,
  length,
  Option,
  Some,
  None,
  refl,
  sym,
  ap,
  arith,
  inl,
  inr,
  ◌⊎◌,
  ◌∙◌,
}
use Rattle.std.specs.Prelude.{nat_le, slice_get}
use Rattle.std.specs.List.{list_any, list_all, range_with_len}
use Rattle.std.specs.Cmp.Derive.{both_true}
use Rattle.std.proofs.lemmas.Bool.{false≢true, and_parts, or_cases, leb-true, le-leb, eqb-true, eq-eqb}
use Rattle.std.proofs.lemmas.Option.{slice_get_within}
use Rattle.self_timed.specs.Graph.{Graph}
use Rattle.self_timed.specs.Archi.{Architecture}
use Rattle.self_timed.specs.declared.Decision.{Decision}
use Rattle.self_timed.specs.Acts.{Act, carry, run, end_of, is_on, runs, latest}
use Rattle.self_timed.specs.ScheduleValid.{have_ended, is_right, are_right}
use Rattle.lower_bound.proofs.Parts.{Each, RightRun, right_run}

-- the sum of what these give
abbrev pub total : {A : Type 0} → (A → ℕ) → List A → ℕ
total f [] = 0
total f (x ∷ xs) = f x + total f xs

module _ (weight : ℕ → ℕ) where
  -- the weight of the operation that an act runs
  abbrev pub of_act : Act → ℕ
  of_act (carry t) = 0
  of_act (run d) = weight d.op

  -- if it runs on this operator
  abbrev pub of_act_on : ℕ → Act → ℕ
  of_act_on o (carry t) = 0
  of_act_on o (run d) = cond (nat_eq d.operator o) (weight d.op) 0

  -- where it runs among these operators, or else weighs nothing
  abbrev pub IsAmong : List ℕ → Act → Type 0
  IsAmong os (carry t) = Unit {0}
  IsAmong os (run d) = (list_any (nat_eq d.operator) os ≡ true) ⊎ (weight d.op ≡ 0)

  -- one act more, operator by operator
  act_counts : (x : Act) (xs : List Act) (os : List ℕ) → total (λ o. total (of_act_on o) (x ∷ xs)) os ≡ total (λ o. of_act_on o x) os + total (λ o. total (of_act_on o) xs) os
  act_counts x xs [] = refl
  act_counts x xs (o ∷ os) = let e = act_counts x xs os in omega arith

  counts_among : (x : Act) (os : List ℕ) → IsAmong os x → of_act x ≤ total (λ o. of_act_on o x) os
  counts_among (carry t) os h = omega arith
  counts_among (run d) os (inr e) = omega arith
  counts_among (run d) os (inl h) = by os h
    where
      by : (os : List ℕ) → list_any (nat_eq d.operator) os ≡ true → weight d.op ≤ total (λ o. cond (nat_eq d.operator o) (weight d.op) 0) os
      by [] h = absurd (false≢true h)
      by (o ∷ os) h = elim (or_cases (nat_eq d.operator o) (list_any (nat_eq d.operator) os) h) [
        | inl e ↦ (let s = ap (λ (b : Bool). cond b (weight d.op) 0) e in omega arith)
        | inr e ↦ (let r = by os e in omega arith)
      ]

  -- the weights of all acts are among those of the operators
  pub all_among : (xs : List Act) (os : List ℕ) → Each (IsAmong os) xs → total of_act xs ≤ total (λ o. total (of_act_on o) xs) os
  all_among [] os all = omega arith
  all_among (x ∷ xs) os all =
      let e = act_counts x xs os in
      let l = counts_among x os all.0 in
      let r = all_among xs os all.1 in
      omega arith

  -- the weight of an operation that one of these runs
  abbrev pub of_run : List Act → ℕ → ℕ
  of_run xs v = cond (list_any (runs v) xs) (weight v) 0

  no_act : (a n : ℕ) → total (of_run []) (range_with_len a n) ≡ 0
  no_act a zero = refl
  no_act a (suc n) = let e = no_act (a + 1) n in omega arith

  run_counts : (x : Act) (xs : List Act) (vs : List ℕ) → total (of_run (x ∷ xs)) vs ≤ total (λ v. cond (runs v x) (weight v) 0) vs + total (of_run xs) vs
  run_counts x xs [] = omega arith
  run_counts x xs (v ∷ vs) = let r = run_counts x xs vs in by (runs v x) (list_any (runs v) xs) r
    where
      by : (b c : Bool) → total (of_run (x ∷ xs)) vs ≤ total (λ v. cond (runs v x) (weight v) 0) vs + total (of_run xs) vs
          → cond (b || c) (weight v) 0 + total (of_run (x ∷ xs)) vs ≤ (cond b (weight v) 0 + total (λ v. cond (runs v x) (weight v) 0) vs) + (cond c (weight v) 0 + total (of_run xs) vs)
      by true c r = omega arith
      by false true r = omega arith
      by false false r = omega arith

  no_run : (a n : ℕ) → total (λ v. cond false (weight v) 0) (range_with_len a n) ≡ 0
  no_run a zero = refl
  no_run a (suc n) = let e = no_run (a + 1) n in omega arith

  -- an operation stands once among numbers that ascend
  past : (w a n : ℕ) → w < a → total (λ v. cond (nat_eq w v) (weight v) 0) (range_with_len a n) ≤ 0
  past w a zero l = omega arith
  past w a (suc n) l = by (nat_eq w a) refl (past w (a + 1) n (omega arith))
    where
      by : (b : Bool) → nat_eq w a ≡ b → total (λ v. cond (nat_eq w v) (weight v) 0) (range_with_len (a + 1) n) ≤ 0
          → cond b (weight a) 0 + total (λ v. cond (nat_eq w v) (weight v) 0) (range_with_len (a + 1) n) ≤ 0
      by true e r = let s = eqb-true w a e in absurd (omega arith)
      by false e r = omega arith

  once : (w a n : ℕ) → total (λ v. cond (nat_eq w v) (weight v) 0) (range_with_len a n) ≤ weight w
  once w a zero = omega arith
  once w a (suc n) = by (nat_eq w a) refl (once w (a + 1) n)
    where
      by : (b : Bool) → nat_eq w a ≡ b → total (λ v. cond (nat_eq w v) (weight v) 0) (range_with_len (a + 1) n) ≤ weight w
          → cond b (weight a) 0 + total (λ v. cond (nat_eq w v) (weight v) 0) (range_with_len (a + 1) n) ≤ weight w
      by true e r =
          let s = eqb-true w a e in
          let t = ap weight s in
          let u = past w (a + 1) n (omega arith) in
          omega arith
      by false e r = omega arith

  run_once : (x : Act) (a n : ℕ) → total (λ v. cond (runs v x) (weight v) 0) (range_with_len a n) ≤ of_act x
  run_once (carry t) a n = let e = no_run a n in omega arith
  run_once (run d) a n = once d.op a n

  runs_low : (xs : List Act) (a n : ℕ) → total (of_run xs) (range_with_len a n) ≤ total of_act xs
  runs_low [] a n = let e = no_act a n in omega arith
  runs_low (x ∷ xs) a n =
      let c = run_counts x xs (range_with_len a n) in
      let o = run_once x a n in
      let r = runs_low xs a n in
      omega arith

  -- where each of these operations runs, the acts have all their weights
  pub all_run : (xs : List Act) (a n : ℕ) → list_all (λ v. list_any (runs v) xs) (range_with_len a n) ≡ true → total weight (range_with_len a n) ≤ total of_act xs
  all_run xs a n h = let l = runs_low xs a n in let r = by (range_with_len a n) h in omega arith
    where
      by : (vs : List ℕ) → list_all (λ v. list_any (runs v) xs) vs ≡ true → total weight vs ≤ total (of_run xs) vs
      by [] h = omega arith
      by (v ∷ vs) h =
          let both = and_parts (list_any (runs v) xs) (list_all (λ v. list_any (runs v) xs) vs) h in
          let e = ap (λ (b : Bool). cond b (weight v) 0) both.0 in
          let r = by vs both.1 in
          omega arith

-- one act more has ended by a date
pub ended_more : (test : Act → Bool) (before : List Act) (x : Act) (date : ℕ) → have_ended test (before ++ x ∷ []) date ≡ true
    → (have_ended test before date ≡ true) × (test x ≡ true → end_of x ≤ date)
ended_more test [] x date h = (refl, by (test x) (and_parts (not (test x) || nat_le (end_of x) date) true h).0)
  where
    by : (b : Bool) → (not b || nat_le (end_of x) date) ≡ true → b ≡ true → end_of x ≤ date
    by true k e = leb-true (end_of x) date k
    by false k e = absurd (false≢true e)
ended_more test (y ∷ ys) x date h =
    let both = and_parts (not (test y) || nat_le (end_of y) date) (have_ended test (ys ++ x ∷ []) date) h in
    let r = ended_more test ys x date both.1 in
    (both_true both.0 r.0, r.1)

module _ (g : Graph) (a : Architecture) (ticks : ℕ → ℕ → Option ℕ) (weight : ℕ → ℕ) (o : ℕ) (low : (v t : ℕ) → ticks v o ≡ Some t → weight v ≤ t) where
  -- whatever has run on the operator so far, this much has passed
  abbrev HasPassed : List Act → ℕ → Type 0
  HasPassed before n = (date : ℕ) → have_ended (is_on o) before date ≡ true → n ≤ date

  run_passes : (before : List Act) (d : Decision) (n : ℕ) → RightRun g a ticks before d → HasPassed before n → (b : Bool) → nat_eq d.operator o ≡ b
      → (n + cond b (weight d.op) 0 ≤ max n d.end) × HasPassed (before ++ run d ∷ []) (n + cond b (weight d.op) 0)
  run_passes before d n r passed true e =
      let same = eqb-true d.operator o e in
      let l = low d.op r.time (ap (ticks d.op) (sym same) ∙ r.entry) in
      let p = passed d.start (ap (λ (k : ℕ). have_ended (is_on k) before d.start) (sym same) ∙ r.free) in
      let long = r.long in
      let m : n + weight d.op ≤ d.end = omega arith in
      ((omega arith), (λ date h. (let f = (ended_more (is_on o) before (run d) date h).1 e in omega arith)))
  run_passes before d n r passed false e = ((omega arith), (λ date h. (let p = passed date (ended_more (is_on o) before (run d) date h).0 in omega arith)))

  pub load_low : (before xs : List Act) (n : ℕ) → HasPassed before n → are_right g a ticks before xs ≡ true → n + total (of_act_on weight o) xs ≤ max n (latest xs)
  load_low before [] n passed h = omega arith
  load_low before (carry t ∷ xs) n passed h =
      let both = and_parts (is_right g a ticks before (carry t)) (are_right g a ticks (before ++ carry t ∷ []) xs) h in
      let r = load_low (before ++ carry t ∷ []) xs n (λ date k. passed date (ended_more (is_on o) before (carry t) date k).0) both.1 in
      omega arith
  load_low before (run d ∷ xs) n passed h =
      let both = and_parts (is_right g a ticks before (run d)) (are_right g a ticks (before ++ run d ∷ []) xs) h in
      let p = run_passes before d n (right_run g a ticks before d both.0) passed (nat_eq d.operator o) refl in
      let r = load_low (before ++ run d ∷ []) xs (n + cond (nat_eq d.operator o) (weight d.op) 0) p.1 both.1 in
      let q = p.0 in
      omega arith

module _ (g : Graph) (a : Architecture) (ticks : ℕ → ℕ → Option ℕ) (weight : ℕ → ℕ) where
  -- the weight on so many operators is at most as often the length
  loads_low : (os : List ℕ) (xs : List Act) → Each (λ o. (v t : ℕ) → ticks v o ≡ Some t → weight v ≤ t) os → are_right g a ticks [] xs
      ≡ true → total (λ o. total (of_act_on weight o) xs) os ≤ length os * latest xs
  loads_low [] xs low h = omega arith
  loads_low (o ∷ os) xs low h =
      let l = load_low g a ticks weight o low.0 [] xs 0 (λ date k. omega arith) h in
      let r = loads_low os xs low.1 h in
      let e : suc (length os) * latest xs ≡ length os * latest xs + latest xs = grind arith in
      omega arith

  -- Operations that weigh at most as much as they last, and that stand on these operators alone or weigh nothing:
  -- together they weigh at most as often the length as there are operators.
  pub work_low : (os : List ℕ) (xs : List Act) (n : ℕ) → Each (λ o. (v t : ℕ) → ticks v o ≡ Some t → weight v ≤ t) os → are_right g a ticks [] xs ≡ true
      → list_all (λ v. list_any (runs v) xs) (range_with_len 0 n) ≡ true
      → ((v o t : ℕ) → v < length g.vertices → o < length a.operators → ticks v o ≡ Some t → (list_any (nat_eq o) os ≡ true) ⊎ (weight v ≡ 0))
      → total weight (range_with_len 0 n) ≤ length os * latest xs
  work_low os xs n low right placed only =
      let l = loads_low os xs low right in
      let m = all_among weight xs os (among [] xs right) in
      let k = all_run weight xs 0 n placed in
      omega arith
    where
      among : (before xs : List Act) → are_right g a ticks before xs ≡ true → Each (IsAmong weight os) xs
      among before [] h = tt
      among before (x ∷ xs) h =
          let both = and_parts (is_right g a ticks before x) (are_right g a ticks (before ++ x ∷ []) xs) h in
          (one x both.0, among (before ++ x ∷ []) xs both.1)
        where
          one : (x : Act) → is_right g a ticks before x ≡ true → IsAmong weight os x
          one (carry t) h = tt
          one (run d) h = let r = right_run g a ticks before d h in only d.op d.operator r.time (slice_get_within g.vertices d.op r.it r.is) r.below r.entry
