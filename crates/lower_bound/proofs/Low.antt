-- No line is busy for so long that a thousand times as many ticks were too many.
use Rattle.std.proofs.Common.{◌≡◌, ℕ, zero, suc, ◌+◌, ◌*◌, ◌^◌, ◌<◌, ◌≤◌, Bool, true, false, List, [], ◌∷◌, map, length, Some, refl, ap, arith, if◌then◌else◌, cond}
use Rattle.std.specs.Prelude.{slice_get, nat_lt, All}
use Rattle.std.specs.List.{range_with_len}
use Rattle.std.proofs.lemmas.List.FromFn.{length-map-range_with_len}
use Rattle.std.proofs.lemmas.Nat.{mul-le}
use Rattle.std.proofs.lemmas.Option.{same_Some}
use Rattle.self_timed.specs.Graph.{Graph}
use Rattle.self_timed.specs.FlatValid.{is_flat}
use Rattle.self_timed.specs.Archi.{Architecture, is_archi}
use Rattle.self_timed.specs.Table.{Table, IsRow, entry_in}
use Rattle.self_timed.specs.ScheduleValid.{is_valid}
use Rattle.self_timed.proofs.Archis.{few_operators, few_media}
use Rattle.self_timed.specs.Acts.{Act, acts, is_on, is_over, length_of}
use Rattle.self_timed.specs.declared.Schedule.{Schedule}
use Rattle.self_timed.proofs.Low.{few_acts, stated_low}
use Rattle.lower_bound.specs.declared.report.Report.{Report}
use Rattle.lower_bound.specs.declared.loads.Load.{Load}
use Rattle.lower_bound.specs.Numbers.{busy, load, loads, report}
use Rattle.lower_bound.proofs.Busy.{busy-cons}
use Rattle.lower_bound.specs.declared.busiest.Line.{Line}
use Rattle.lower_bound.specs.declared.busiest.Line.TheVariants.{Operator, Medium}
use Rattle.lower_bound.specs.declared.busiest.Busy.{Busy}
use Rattle.lower_bound.specs.Busiest.{busier, busy_line, longest_busy}
use Rattle.self_timed.specs.Entries.{stated}

-- the acts of a line last no longer together than all acts do at most
pub busy_low : (test : Act → Bool) (most : ℕ) (xs : List Act) → ((i : ℕ) (x : Act) → slice_get xs i ≡ Some x → stated x ≤ most) → busy test xs ≤ length xs * most
busy_low test most [] h = omega arith
busy_low test most (x ∷ xs) h = by (test x) (busy-cons test x xs) (h 0 x refl) (busy_low test most xs (λ i y q. h (suc i) y q))
  where
    by : (b : Bool) → busy test (x ∷ xs) ≡ cond b (stated x) 0 + busy test xs → stated x ≤ most → busy test xs ≤ length xs * most → busy test (x ∷ xs) ≤ suc (length xs) * most
    by true e here rest = omega arith
    by false e here rest = omega arith

-- the greatest of low loads is low
pub busier_low : (most : ℕ) (name : ℕ → Line) (n : ℕ) (ls : List Load) (best : Busy) → best.ticks ≤ most
    → ((i : ℕ) (l : Load) → slice_get ls i ≡ Some l → l.busy ≤ most) → (busier best name n ls).ticks ≤ most
busier_low most name n [] best low h = low
busier_low most name n (l ∷ ls) best low h =
    busier_low most name (suc n) ls (if nat_lt best.ticks l.busy then busy_line (name n) l.busy else best) (by (nat_lt best.ticks l.busy))
    (λ i m q. h (suc i) m q)
  where
    by : (b : Bool) → (if b then busy_line (name n) l.busy else best).ticks ≤ most
    by true = h 0 l refl
    by false = low

loads_low : (most : ℕ) (test : ℕ → Act → Bool) (s : Schedule) (from count : ℕ) (length : ℕ) → ((n : ℕ) → busy (test n) (acts s) ≤ most) → (i : ℕ) (l : Load)
    → slice_get (map (λ n. load length (busy (test n) (acts s))) (range_with_len from count)) i ≡ Some l → l.busy ≤ most
loads_low most test s from zero length h i l e = absurd cc
loads_low most test s from (suc count) length h zero l e = let z = ap (λ (m : Load). m.busy) (same_Some (load length (busy (test from) (acts s))) l e) in let w = h from in omega arith
loads_low most test s from (suc count) length h (suc i) l e = loads_low most test s (from + 1) count length h i l e

-- of a schedule with few short acts
pub longest_low : (s : Schedule) (operators media most : ℕ) → ((i : ℕ) (x : Act) → slice_get (acts s) i ≡ Some x → stated x ≤ most)
    → (longest_busy (loads is_on operators s) (loads is_over media s)).ticks ≤ length (acts s) * most
longest_low s operators media most h =
    busier_low (length (acts s) * most) Medium 0 (loads is_over media s) (busier (busy_line (Operator 0) 0) Operator 0 (loads is_on operators s))
    (busier_low (length (acts s) * most) Operator 0 (loads is_on operators s) (busy_line (Operator 0) 0) (omega arith)
    (loads_low (length (acts s) * most) is_on s 0 operators (length_of s) (λ n. busy_low (is_on n) most (acts s) h)))
    (loads_low (length (acts s) * most) is_over s 0 media (length_of s) (λ n. busy_low (is_over n) most (acts s) h))

module _ (g : Graph) (a : Architecture) (t : Table) (s : Schedule) (flat : is_flat g ≡ true) (archi : is_archi a.operators a.media ≡ true)
    (rows : All (IsRow t.operators) t.rows) (valid : is_valid g a (entry_in t) s ≡ true)
    (r : Report) (is : r ≡ report g a (entry_in t) s) where
  pub few_loads : (length r.operators ≤ 16) × (length r.media ≤ 16)
  few_loads =
      let operators = ap (λ (x : Report). length x.operators) is in
      let media = ap (λ (x : Report). length x.media) is in
      let o = length-map-range_with_len (λ n. load (length_of s) (busy (is_on n) (acts s))) 0 (length a.operators) in
      let m = length-map-range_with_len (λ n. load (length_of s) (busy (is_over n) (acts s))) 0 (length a.media) in
      let p = few_operators a archi in
      let q = few_media a archi in
      ((omega arith), (omega arith))

  -- of the busiest line
  pub product_low : (n : ℕ) → n ≤ 1000 → (longest_busy r.operators r.media).ticks * n < 2 ^ 64
  product_low n l =
      let few = few_acts g a t s flat archi rows valid in
      let low = longest_low s (length a.operators) (length a.media) 1000000000 (λ i x e. stated_low g a t s flat archi rows valid i x e) in
      let same = ap (λ (x : Report). (longest_busy x.operators x.media).ticks) is in
      let all : length (acts s) * 1000000000 ≤ 2099200 * 1000000000 = omega arith in
      let product : (longest_busy r.operators r.media).ticks * n ≤ (2099200 * 1000000000) * 1000 = mul-le (longest_busy r.operators r.media).ticks n (2099200 * 1000000000) 1000 (omega arith) l in
      omega arith
