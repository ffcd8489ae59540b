-- What counts tell of semaphores and turns is at most their sum.
use Rattle.std.proofs.Common.{◌≡◌, ℕ, zero, suc, ◌-◌, ◌*◌, ◌<◌, ◌≤◌, ◌⊎◌, inl, inr, Bool, true, false, cond, List, map, length, Option, Some, None, sym, ap, arith, zero-add}
use Rattle.std.specs.Prelude.{slice_index_or}
use Rattle.std.specs.List.{range_with_len}
use Rattle.std.proofs.lemmas.Bool.{cases_lt}
use Rattle.std.proofs.lemmas.List.{get_or_past}
use Rattle.std.proofs.lemmas.List.FromFn.{length-map-range_with_len, get_or-map-range_with_len}
use Rattle.executive_program.specs.Sites.{Code, hit, passes, step_at}
use Rattle.executive_program.specs.System.{System, Micro, is_take, is_signal, advances, total, total_to}
use Rattle.executive_program.specs.Owners.{sum_below}
use Rattle.semaphore_core.specs.Job.{JobData, system}
use Rattle.semaphore_core.specs.Held.{made}
use Rattle.semaphore_core.specs.Told.{told}
use Rattle.phase_laws.specs.Reached.{AreBounded, count_of}

one_hit : (p : Micro → Bool) (o : Option Micro) → hit p o ≤ 1
one_hit p None = omega arith
one_hit p (Some a) = by (p a)
  where
    by : (b : Bool) → cond b 1 0 ≤ 1
    by true = omega arith
    by false = omega arith

few_passes : (p : Micro → Bool) (c : Code Micro) (n : ℕ) → passes p c n ≤ n
few_passes p c zero = omega arith
few_passes p c (suc n) = let e = few_passes p c n in let d = one_hit p (step_at c n) in omega arith

few_to : {P : Type 0} (w : System P) (p : Micro → Bool) (c : ℕ → ℕ) (n : ℕ) → total_to w p c n ≤ sum_below c n
few_to w p c zero = omega arith
few_to w p c (suc n) = let e = few_to w p c n in let d = few_passes p (w.codes n) (c n) in omega arith

-- an entry of a list that is made by a function
entry_le : (f : ℕ → ℕ) (n i bound : ℕ) → ((k : ℕ) → f k ≤ bound) → slice_index_or (map f (range_with_len 0 n)) i 0 ≤ bound
entry_le f n i bound h = by (cases_lt i n)
  where
    by : (i < n) ⊎ (n ≤ i) → slice_index_or (map f (range_with_len 0 n)) i 0 ≤ bound
    by (inl l) = let e = get_or-map-range_with_len f 0 n i i 0 l (zero-add i) in let d = h i in omega arith
    by (inr l) = let m = length-map-range_with_len f 0 n in let e = get_or_past (map f (range_with_len 0 n)) i 0 (omega arith) in omega arith

pub told_bounded : (j : JobData) (counts : List ℕ) → length counts ≡ length j.program.seqs → AreBounded j (told j counts)
told_bounded j counts many = record {
  semaphores = λ x. entry_le (λ y. total (system j) (is_signal y) (count_of j counts) - total (system j) (is_take y) (count_of j counts)) (2 * length j.program.pairs) x (made (told j counts))
      (λ y. let a = few_to (system j) (is_signal y) (count_of j counts) (length j.program.seqs) in let b = all_made in omega arith);
  turns = λ m. entry_le (λ y. total (system j) (advances y) (count_of j counts)) j.media m (made (told j counts))
      (λ y. let a = few_to (system j) (advances y) (count_of j counts) (length j.program.seqs) in let b = all_made in omega arith);
}
  where
    all_made : sum_below (count_of j counts) (length j.program.seqs) ≡ made (told j counts)
    all_made = ap (sum_below (count_of j counts)) (sym many)
