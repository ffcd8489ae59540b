-- From the theory's laws at the system of a job to the laws of every run of the job.
use Rattle.std.proofs.Common.{◌≡◌, ℕ, ◌<◌, Bool, true, cond, List, [], ◌∷◌, ◌++◌, length, Option, Some, None, refl, sym, ap, subst, arith, ◌∙◌}
use Rattle.executive_program.specs.System as theory
use Rattle.executive_program.specs.System.{State}
use Rattle.executive_program.specs.Fresh.{IsFresh}
use Rattle.executive_program.specs.InterleavingLaws as laws_of_theory
use Rattle.executive_program.specs.InterleavingLaws.{Discipline, IsDisciplined}
use Rattle.executive_program.proofs.Synchronized.{have_laws}
use Rattle.executive_program.specs.FlatValid.{is_flat}
use Rattle.executive_program.specs.Sequences.{sequences}
use Rattle.executive_program.specs.declared.steps.MicroStep.{MicroStep}
use Rattle.executive_program.specs.declared.steps.MicroStep.TheVariants.{Take, See, Lower, Signal, Await, Advance, Load, Store}
use Rattle.semaphore_core.specs.Registers.{Own}
use Rattle.semaphore_core.specs.Job.{JobData, system}
use Rattle.semaphore_core.specs.IsJob.{IsJob}
use Rattle.semaphore_core.specs.Told.{told, stored_value, own_after}
use Rattle.semaphore_core.specs.Laws.{HasLaws, IsFreshState, GoesOn, one_more}
use Rattle.semaphore_core.specs.Core.{Core, count, counted, full, next, enabled_by, is_enabled, done_by, step, run, opening, AreReached}
use Rattle.semaphore_core.proofs.Runs.{run_more}
use Rattle.phase_laws.specs.Agrees.{IsFormed, Agrees}
use Rattle.phase_laws.proofs.AgreeRuns.{full_same, runs_agree, steps_agree}
use Rattle.phase_laws.proofs.AgreeTells.{agreement_tells}
use Rattle.phase_laws.proofs.AgreeTold.{told_agrees}

-- what every job keeps is what the agreement asks for
pub jobs_are_formed : (j : JobData) → IsJob j → is_flat j.graph ≡ true → IsFormed j
jobs_are_formed j job valid = record { seqs = sequences job.0; formed = job.1.0.formed; valid = valid; opened = job.1.0.opened }

module _ (j : JobData) where
  -- a step that is made is counted
  done_counts : (z : Core) (s : ℕ) (o : Option MicroStep) → enabled_by j z s o ≡ true → (done_by j z s o).counts ≡ counted z s
  done_counts z s None h = absurd (cc)
  done_counts z s (Some (Take x)) h = refl
  done_counts z s (Some (See x)) h = refl
  done_counts z s (Some (Lower x)) h = refl
  done_counts z s (Some (Signal x)) h = refl
  done_counts z s (Some (Await m i n exact)) h = refl
  done_counts z s (Some (Advance m)) h = refl
  done_counts z s (Some (Load x then)) h = refl
  done_counts z s (Some (Store x what)) h = refl

  pub step_counts : (z : Core) (s : ℕ) → is_enabled j z s ≡ true → (step j z s).counts ≡ counted z s
  step_counts z s h = ap (λ (b : Bool). (cond b (done_by j z s (next j z s)) z).counts) h ∙ done_counts z s (next j z s) h

  module _ (f : IsFormed j) (l : laws_of_theory.HasLaws (system j) (stored_value j) (own_after j)) where
    pub counts_are : (list : List ℕ) → (theory.run (system j) list).counts ≡ count (run j list)
    counts_are list = sym (λ i s. (runs_agree j f list).counts s i)

    pub tells : (list : List ℕ) → run j list ≡ told j (run j list).counts
    tells list = agreement_tells j f (run j list) (told j (run j list).counts) (theory.run (system j) list) (runs_agree j f list)
        (subst (λ (w : State Own). Agrees j (told j (run j list).counts) w) (sym (l.tells list ∙ ap (theory.told (system j) (stored_value j) (own_after j)) (counts_are list)))
        (told_agrees j f (run j list).counts (runs_agree j f list).counts_there))

    fresh : (list : List ℕ) → IsFreshState j (run j list)
    fresh list = subst (λ (c : ℕ → ℕ). IsFresh (system j) c) (counts_are list) (l.fresh list)

    progress : (list : List ℕ) (s : ℕ) → s < length j.program.seqs → count (run j list) s < full j s → (t : ℕ) × (t < length j.program.seqs) × (is_enabled j (run j list) t ≡ true)
    progress list s h k = let r = l.progress list s h (let a = (runs_agree j f list).counts s in let b = full_same j f s in omega arith) in
        (r.0, r.1, (steps_agree j f (run j list) (theory.run (system j) list) (runs_agree j f list) r.0).enabled ∙ r.2)

    goes_on : (counts : List ℕ) (s : ℕ) → AreReached j counts → is_enabled j (told j counts) s ≡ true → GoesOn j counts s
    goes_on counts s r h = record {
      reached = (r.0 ++ s ∷ [], counts_more);
      tells = sym (ap (told j) counts_more)
          ∙ sym (tells (r.0 ++ s ∷ [])) ∙ run_more j (opening j) r.0 s ∙ ap (λ (z : Core). step j z s) told_is;
    }
      where
        told_is : run j r.0 ≡ told j counts
        told_is = tells r.0 ∙ ap (told j) r.1

        counts_more : (run j (r.0 ++ s ∷ [])).counts ≡ one_more j counts s
        counts_more = ap (λ (z : Core). z.counts) (run_more j (opening j) r.0 s) ∙ step_counts (run j r.0) s (ap (λ (z : Core). is_enabled j z s) told_is ∙ h) ∙ ap (λ (c : List ℕ). one_more j c s) r.1

    laws : HasLaws j
    laws = record { told = tells; fresh = fresh; progress = progress; goes_on = goes_on }

-- the theory's laws at the system of a job
pub theory_laws : (j : JobData) (d : Discipline) → IsDisciplined (system j) d (stored_value j) (own_after j) → laws_of_theory.HasLaws (system j) (stored_value j) (own_after j)
theory_laws j d h = have_laws (system j) d (stored_value j) (own_after j) h

pub laws_follow : (j : JobData) → IsFormed j → (d : Discipline) → IsDisciplined (system j) d (stored_value j) (own_after j) → HasLaws j
laws_follow j f d h = laws j f (have_laws (system j) d (stored_value j) (own_after j) h)
