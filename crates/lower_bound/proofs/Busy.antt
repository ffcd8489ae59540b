-- No line of a valid schedule is busy for longer than the schedule lasts.
use Rattle.std.proofs.Common.{◌≡◌, ℕ, ◌+◌, ◌-◌, ◌≤◌, Bool, true, false, cond, ◌&&◌, nat_eq, List, [], ◌∷◌, ◌++◌, max, Option, refl, sym, ap, arith, ◌∙◌}
use Rattle.std.specs.Prelude.{filter, sum_by}
use Rattle.std.proofs.lemmas.Bool.{false≢true, and_parts, eqb-true}
use Rattle.std.proofs.lemmas.List.Sums.{sum_by-cons}
use Rattle.lower_bound.proofs.Parts.{right_run, right_carry}
use Rattle.lower_bound.proofs.OperatorWork.{ended_more}
use Rattle.lower_bound.specs.Numbers.{busy}
use Rattle.lower_bound.specs.LoadLaws.{NoLineIsOverfull}
use Rattle.self_timed.specs.Graph.{Graph}
use Rattle.self_timed.specs.Archi.{Architecture}
use Rattle.self_timed.specs.Acts.{Act, carry, run, acts, start_of, end_of, is_on, is_over, latest}
use Rattle.self_timed.specs.ScheduleValid.{have_ended, is_right, are_right, are_placed}
use Rattle.self_timed.specs.Entries.{stated}

-- one act more
pub busy-cons : (test : Act → Bool) (x : Act) (xs : List Act) → busy test (x ∷ xs) ≡ cond (test x) (stated x) 0 + busy test xs
busy-cons test x xs = by (test x)
  where
    by : (b : Bool) → sum_by stated (cond b (x ∷ filter test xs) (filter test xs)) ≡ cond b (stated x) 0 + sum_by stated (filter test xs)
    by true = sum_by-cons stated x (filter test xs)
    by false = omega arith

module _ (g : Graph) (a : Architecture) (ticks : ℕ → ℕ → Option ℕ) where
  forward : (before : List Act) (x : Act) → is_right g a ticks before x ≡ true → start_of x ≤ end_of x
  forward before (carry t) h = (right_carry g a ticks before t h).later
  forward before (run d) h = let l = (right_run g a ticks before d h).long in omega arith

  module _ (test : Act → Bool) (free : (before : List Act) (x : Act) → is_right g a ticks before x ≡ true → test x ≡ true → have_ended test before (start_of x) ≡ true) where
    line_low : (before xs : List Act) (n : ℕ) → ((date : ℕ) → have_ended test before date ≡ true → n ≤ date) → are_right g a ticks before xs ≡ true → n + busy test xs ≤ max n (latest xs)
    line_low before [] n passed h = omega arith
    line_low before (x ∷ xs) n passed h =
        let both = and_parts (is_right g a ticks before x) (are_right g a ticks (before ++ x ∷ []) xs) h in
        let e = busy-cons test x xs in
        let l = forward before x both.0 in
        by (test x) refl e l (free before x both.0) (λ m k. line_low (before ++ x ∷ []) xs m k both.1)
      where
        by : (b : Bool) → test x ≡ b → busy test (x ∷ xs) ≡ cond b (stated x) 0 + busy test xs → start_of x ≤ end_of x → (test x ≡ true → have_ended test before (start_of x) ≡ true)
            → ((m : ℕ) → ((date : ℕ) → have_ended test (before ++ x ∷ []) date ≡ true → m ≤ date) → m + busy test xs ≤ max m (latest xs)) → n + busy test (x ∷ xs) ≤ max n (max (end_of x) (latest xs))
        by true i e l there later =
            let p = passed (start_of x) (there i) in
            let r = later (n + stated x) (λ date k. (let d = (ended_more test before x date k).1 i in omega arith)) in
            omega arith
        by false i e l there later =
            let r = later n (λ date k. passed date (ended_more test before x date k).0) in
            omega arith

  on_free : (o : ℕ) (before : List Act) (x : Act) → is_right g a ticks before x ≡ true → is_on o x ≡ true → have_ended (is_on o) before (start_of x) ≡ true
  on_free o before (carry t) h i = absurd (false≢true i)
  on_free o before (run d) h i = ap (λ (k : ℕ). have_ended (is_on k) before d.start) (sym (eqb-true d.operator o i)) ∙ (right_run g a ticks before d h).free

  over_free : (m : ℕ) (before : List Act) (x : Act) → is_right g a ticks before x ≡ true → is_over m x ≡ true → have_ended (is_over m) before (start_of x) ≡ true
  over_free m before (carry t) h i = ap (λ (k : ℕ). have_ended (is_over k) before t.start) (sym (eqb-true t.medium m i)) ∙ (right_carry g a ticks before t h).free
  over_free m before (run d) h i = absurd (false≢true i)

pub no_line_is_overfull : NoLineIsOverfull
no_line_is_overfull g a ticks s h n =
    let right = (and_parts (are_right g a ticks [] (acts s)) (are_placed g a ticks (acts s)) h).0 in
    let on = line_low g a ticks (is_on n) (on_free g a ticks n) [] (acts s) 0 (λ date k. omega arith) right in
    let over = line_low g a ticks (is_over n) (over_free g a ticks n) [] (acts s) 0 (λ date k. omega arith) right in
    (omega arith, omega arith)
