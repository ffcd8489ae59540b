-- A run in windows: some reactions in succession are a job of their own,
-- which begins with the cells that the reactions before them leave.
use Rattle.std.specs.Prelude.{◌≡◌, ℕ, ◌+◌, ◌≤◌, List, take, drop, None}
use Rattle.executive_program.specs.Meaning.{cells_after}
use Rattle.semaphore_core.specs.Job.{JobData, reactions}
use Rattle.semaphore_core.specs.IsJob.{limit_of}
use Rattle.phase_laws.specs.Values.{IsSupplied}
use Rattle.phase_laws.specs.Ended.{last_cells, all_acts}

-- this many elements of a list, from one on
abbrev pub window : {A : Type 0} → ℕ → ℕ → List A → List A
window from count xs = take count (drop from xs)

-- the job of this many reactions, from one on
abbrev pub window_job : JobData → ℕ → ℕ → JobData
window_job j from count = record j {
  sensors = window from count j.sensors;
  opening = cells_after j.graph j.sensors j.opening from;
}

-- It is a job as the whole one, its actuators take what those of the whole job take in
-- these reactions, and it leaves the cells with which the next window begins.
pub record IsWindow (j : JobData) (from count : ℕ) : Type 0 where
  pub supplied : IsSupplied (window_job j from count)
  pub limit : limit_of j ≡ None → limit_of (window_job j from count) ≡ None
  pub acts : all_acts (window_job j from count) ≡ window from count (all_acts j)
  pub cells : last_cells (window_job j from count) ≡ cells_after j.graph j.sensors j.opening (from + count)

-- Any reactions of a job in succession are a window of it, so that its windows, one
-- after another, make the whole run.
abbrev pub WindowsMakeTheRun : Type 0
WindowsMakeTheRun = (j : JobData) → IsSupplied j → (from count : ℕ) → from + count ≤ reactions j → IsWindow j from count
