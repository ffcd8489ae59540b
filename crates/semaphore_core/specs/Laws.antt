-- The laws of every run of a job, for phase_laws to prove: what it is,
-- that it is fresh, that it can go on, and what one more step does.
use Rattle.std.specs.Prelude.{◌≡◌, ℕ, ◌+◌, ◌<◌, true, List, length, slice_index_or, slice_set}
use Rattle.executive_program.specs.Fresh.{IsFresh}
use Rattle.semaphore_core.specs.Job.{JobData, system}
use Rattle.semaphore_core.specs.Core.{Core, run, count, full, step, is_enabled, AreReached}
use Rattle.semaphore_core.specs.Told.{told}

module _ (j : JobData) where
  -- In this state no value was overwritten before its last load, and no load was made before the
  -- store of its own round.
  abbrev pub IsFreshState : Core → Type 0
  IsFreshState z = IsFresh (system j) (count z)

  -- Every run of the job leads to the state that its counts determine.
  abbrev pub RunsAreTold : Type 0
  RunsAreTold = (list : List ℕ) → run j list ≡ told j (run j list).counts

  -- In every run of the job no value is overwritten before its last load, and no load
  -- is made before the store of its own round.
  abbrev pub RunsAreFresh : Type 0
  RunsAreFresh = (list : List ℕ) → IsFreshState (run j list)

  -- until all is done some sequence is enabled
  abbrev pub RunsProgress : Type 0
  RunsProgress = (list : List ℕ) (s : ℕ) → s < length j.program.seqs → count (run j list) s < full j s
      → (t : ℕ) × (t < length j.program.seqs) × (is_enabled j (run j list) t ≡ true)

  -- These are the counts with one more micro-step of sequence s.
  abbrev pub one_more : List ℕ → ℕ → List ℕ
  one_more counts s = slice_set counts s (slice_index_or counts s 0 + 1)

  -- From reached counts, one more micro-step of a sequence that is enabled in
  -- what they tell: its counts are reached, and tell that step.
  pub record GoesOn (counts : List ℕ) (s : ℕ) : Type 0 where
    pub reached : AreReached j (one_more counts s)
    pub tells : told j (one_more counts s) ≡ step j (told j counts) s

  -- If a sequence is enabled in the state that reached counts determine, the counts with its
  -- micro-step are reached too, and they determine the state after that step.
  abbrev pub RunsGoOn : Type 0
  RunsGoOn = (counts : List ℕ) (s : ℕ) → AreReached j counts → is_enabled j (told j counts) s ≡ true → GoesOn counts s

  -- In all runs of the job counts determine the state, no value is lost, some sequence is enabled
  -- until all is done, and an enabled step goes on from reached counts to reached counts.
  pub record HasLaws : Type 0 where
    pub told : RunsAreTold
    pub fresh : RunsAreFresh
    pub progress : RunsProgress
    pub goes_on : RunsGoOn
