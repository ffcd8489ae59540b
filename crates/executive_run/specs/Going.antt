-- How far the sequences of a driver went.
use Rattle.std.specs.Prelude.{◌≡◌, ℕ, suc, ◌+◌, ◌-◌, ◌<◌, ◌≤◌, false, List, [], ◌∷◌, length, slice_index_or}
use Rattle.semaphore_core.specs.Job.{JobData}
use Rattle.semaphore_core.specs.Core.{full, is_enabled, AreReached}
use Rattle.semaphore_core.specs.Told.{told}
use Rattle.word_table.specs.Driver.{DriverData}

-- how many micro-steps are left of the sequences from k on, where these are their counts
abbrev pub left_from : JobData → ℕ → List ℕ → ℕ
left_from j k [] = 0
left_from j k (n ∷ ns) = (full j k - n) + left_from j (suc k) ns

-- how many micro-steps are left in all
abbrev pub steps_left : DriverData → ℕ
steps_left d = left_from d.fabric.job 0 d.counts

-- The driver stays that of its fabric and group. Where steps were made fewer are left, and else no count changed.
pub record GoesOn (old new : DriverData) (steps : ℕ) : Type 0 where
  pub fabric : new.fabric ≡ old.fabric
  pub group : new.group ≡ old.group
  pub many : length new.counts ≡ length old.counts
  pub idle : steps ≡ 0 → new.counts ≡ old.counts
  pub no_more : steps_left new ≤ steps_left old
  pub fewer : 0 < steps → steps_left new < steps_left old

-- The sequence has not made all its micro-steps where one is waiting, and else it has.
pub record GoesTo (d : DriverData) (s waiting : ℕ) : Type 0 where
  pub finished : waiting ≡ 0 → slice_index_or d.counts s 0 ≡ full d.fabric.job s
  pub more : 0 < waiting → slice_index_or d.counts s 0 < full d.fabric.job s

-- the counts of all sequences are reached, and the sequence is not enabled in what they tell
pub record IsHalted (d : DriverData) (s : ℕ) : Type 0 where
  pub reached : AreReached d.fabric.job d.counts
  pub disabled : is_enabled d.fabric.job (told d.fabric.job d.counts) s ≡ false

-- no sequence is enabled in what the reached counts tell, and some sequence has not made all its micro-steps
pub record IsStuck (d : DriverData) : Type 0 where
  pub reached : AreReached d.fabric.job d.counts
  pub disabled : (s : ℕ) → s < length d.fabric.job.program.seqs →
      is_enabled d.fabric.job (told d.fabric.job d.counts) s ≡ false
  pub seq : ℕ
  pub there : seq < length d.fabric.job.program.seqs
  pub more : slice_index_or d.counts seq 0 < full d.fabric.job seq
