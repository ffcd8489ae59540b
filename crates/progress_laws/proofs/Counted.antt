-- Steps that are enabled raise the sum of all counts by one each, up to the sum of the full counts.
use Rattle.std.proofs.Common.{◌≡◌, ◌≢◌, ℕ, zero, suc, ◌+◌, ◌<◌, ◌≤◌, ◌⊎◌, inl, inr, Bool, true, cond, List, [], ◌∷◌, length, get_or, Option, Some, None, refl, sym, ap, subst, arith, ◌∙◌}
use Rattle.std.specs.Prelude.{replicate}
use Rattle.std.proofs.lemmas.Bool.{cases_eq, cases_lt}
use Rattle.std.proofs.lemmas.List.{length-set, length-replicate, get_or-set_same, get_or-set_other, get_or-replicate, get_or_past}
use Rattle.executive_program.specs.Owners.{sum_below}
use Rattle.executive_program.proofs.InterleavingSums.{le_below, more_below, none_below}
use Rattle.executive_program.specs.declared.steps.MicroStep.{MicroStep}
use Rattle.executive_program.specs.declared.steps.MicroStep.TheVariants.{Take, See, Lower, Signal, Await, Advance, Load, Store}
use Rattle.phase_laws.specs.Job.{JobData, reactions, total_steps}
use Rattle.phase_laws.specs.Core.{Core, opening, count, counted, full, next, reaction, done_in, done_by, enabled_by, is_enabled, step, run, run_from, IsDone}
use Rattle.phase_laws.specs.Held.{made}
use Rattle.phase_laws.proofs.Opened.{full_total}
use Rattle.progress_laws.specs.Bound.{AllEnabledFrom, AllEnabled, IsBound}
use Rattle.progress_laws.proofs.Enabled.{enabled_there, enabled_pending}

-- sums that are the same, of numbers of which none is more, are of the same numbers
sum_equal : (f g : ℕ → ℕ) (n : ℕ) → ((i : ℕ) → f i ≤ g i) → sum_below f n ≡ sum_below g n → (s : ℕ) → s < n → f s ≡ g s
sum_equal f g zero h e s l = absurd (omega arith)
sum_equal f g (suc n) h e s l = by (cases_eq s n) (λ k. sum_equal f g n h (let a = le_below f g n (λ i l. h i) in let b = h n in omega arith) s k)
  where
    by : (s ≡ n) ⊎ (s ≡ n → ⊥) → (s < n → f s ≡ g s) → f s ≡ g s
    by (inl q) r = subst (λ (i : ℕ). f i ≡ g i) (sym q) (let a = le_below f g n (λ i l. h i) in let b = h n in omega arith)
    by (inr q) r = r (omega arith)

module _ (j : JobData) where
  -- a count for each sequence, and none above its full count
  record AreCounts (z : Core) : Type 0 where
    there : length z.counts ≡ length j.program.seqs
    within : (s : ℕ) → count z s ≤ full j s

  done_counts : (z : Core) (s k : ℕ) (m : MicroStep) → (done_in j z s k m).counts ≡ counted z s
  done_counts z s k (Take x) = refl
  done_counts z s k (See x) = refl
  done_counts z s k (Lower x) = refl
  done_counts z s k (Signal x) = refl
  done_counts z s k (Await m i n exact) = refl
  done_counts z s k (Advance m) = refl
  done_counts z s k (Load x then) = refl
  done_counts z s k (Store x what) = refl

  step_counts : (z : Core) (s : ℕ) → is_enabled j z s ≡ true → (step j z s).counts ≡ counted z s
  step_counts z s on = by (next j z s) on
    where
      by : (o : Option MicroStep) → enabled_by j z s o ≡ true → (cond (enabled_by j z s o) (done_by j z s o) z).counts ≡ counted z s
      by None e = absurd cc
      by (Some m) e = ap (λ (b : Bool). (cond b (done_in j z s (reaction j z s) m) z).counts) e ∙ done_counts z s (reaction j z s) m

  module _ (z : Core) (a : AreCounts z) (s : ℕ) (on : is_enabled j z s ≡ true) where
    in_counts : s < length z.counts
    in_counts = let e = a.there in let d = enabled_there j z s on in omega arith

    at_s : count (step j z s) s ≡ count z s + 1
    at_s = ap (λ (l : List ℕ). get_or l s 0) (step_counts z s on) ∙ get_or-set_same z.counts s (count z s + 1) 0 in_counts

    at_other : (t : ℕ) → t ≢ s → count (step j z s) t ≡ count z t
    at_other t q = ap (λ (l : List ℕ). get_or l t 0) (step_counts z s on) ∙ get_or-set_other z.counts s t (count z s + 1) 0 q

    same_length : length (step j z s).counts ≡ length z.counts
    same_length = ap (λ (l : List ℕ). length l) (step_counts z s on) ∙ length-set z.counts s (count z s + 1)

    made_more : made (step j z s) ≡ made z + 1
    made_more = ap (λ (n : ℕ). sum_below (count (step j z s)) n) same_length ∙ more_below (count z) (count (step j z s)) (length z.counts) s in_counts at_s at_other

    step_within : (t : ℕ) → count (step j z s) t ≤ full j t
    step_within t = by (cases_eq t s)
      where
        by : (t ≡ s) ⊎ (t ≡ s → ⊥) → count (step j z s) t ≤ full j t
        by (inl q) = subst (λ (u : ℕ). count (step j z s) u ≤ full j u) (sym q) (let e = at_s in let d = enabled_pending j z s on in omega arith)
        by (inr q) = let e = at_other t q in let d = a.within t in omega arith

    step_are : AreCounts (step j z s)
    step_are = record { there = same_length ∙ a.there; within = step_within }

  -- as many micro-steps more are made as the list has entries
  run_made : (z : Core) (list : List ℕ) → AreCounts z → AllEnabledFrom j z list → made (run_from j z list) ≡ made z + length list
  run_made z [] a on = omega arith
  run_made z (s ∷ ss) a on = let e = run_made (step j z s) ss (step_are z a s on.0) on.1 in let d = made_more z a s on.0 in omega arith

  run_are : (z : Core) (list : List ℕ) → AreCounts z → AllEnabledFrom j z list → AreCounts (run_from j z list)
  run_are z [] a on = a
  run_are z (s ∷ ss) a on = run_are (step j z s) ss (step_are z a s on.0) on.1

  zero_at : (s : ℕ) → count (opening j) s ≡ 0
  zero_at s = by (cases_lt s (length j.program.seqs))
    where
      by : (s < length j.program.seqs) ⊎ (length j.program.seqs ≤ s) → count (opening j) s ≡ 0
      by (inl l) = get_or-replicate (length j.program.seqs) s 0 0 l
      by (inr l) = get_or_past (replicate (length j.program.seqs) 0) s 0
          (let e : length (replicate {A = ℕ} (length j.program.seqs) 0) ≡ length j.program.seqs = length-replicate (length j.program.seqs) 0 in omega arith)

  opening_are : AreCounts (opening j)
  opening_are = record { there = length-replicate (length j.program.seqs) 0; within = λ s. let e = zero_at s in omega arith }

  module _ (list : List ℕ) (on : AllEnabled j list) where
    are : AreCounts (run j list)
    are = run_are (opening j) list opening_are on

    made_is : made (run j list) ≡ length list
    made_is = let e = run_made (opening j) list opening_are on in let z = none_below (count (opening j)) (length (opening j).counts) (λ i l. zero_at i) in omega arith

    sums_to : made (run j list) ≡ sum_below (count (run j list)) (length j.program.seqs)
    sums_to = ap (λ (n : ℕ). sum_below (count (run j list)) n) are.there

    most : length list ≤ total_steps j.program (reactions j)
    most = let a = made_is in let b = sums_to in let c = le_below (count (run j list)) (full j) (length j.program.seqs) (λ i l. are.within i) in let d = full_total j in omega arith

    ends : length list ≡ total_steps j.program (reactions j) → IsDone j (run j list)
    ends e = sum_equal (count (run j list)) (full j) (length j.program.seqs) are.within (sym sums_to ∙ made_is ∙ e ∙ sym (full_total j))

  pub is_bound : IsBound j (total_steps j.program (reactions j))
  is_bound = record { most = most; ends = ends }
