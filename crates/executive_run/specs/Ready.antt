-- What was made ready to run.
use Rattle.std.specs.Prelude.{ℕ, refl}
use Rattle.std.specs.Coded.{Coded, code_by, coded×, coded_ℕ}
use Rattle.semaphore_core.specs.Job.{JobData}

-- the job, and by how many workers it is run
pub record ReadyData : Type 0 where
  pub job : JobData
  pub workers : ℕ

-- a code of it, from one of the job
abbrev pub ready_code : Coded JobData → Coded ReadyData
ready_code job = code_by (JobData × ℕ) (coded× job coded_ℕ) (λ r. (r.job, r.workers))
    (λ p. record { job = p.0; workers = p.1 }) (λ _. refl)
