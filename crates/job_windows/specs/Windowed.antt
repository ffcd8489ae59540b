-- The windows of a job: which one is next, its job, and what running it does.
use Rattle.std.specs.Prelude.{◌≡◌, ℕ, ◌+◌, ◌*◌, ◌<◌, ◌≤◌, None, Option, Some, Result, Ok, Err, refl}
use Rattle.std.specs.Coded.{Coded, code_by, coded×, coded_ℕ}
use Rattle.syn_base.specs.Rows.{Reactions}
use Rattle.syn_base.specs.declared.memory.OutOfMemory.{OutOfMemory}
use Rattle.executive_program.specs.Archi.{Architecture}
use Rattle.executive_program.specs.Graph.{Graph}
use Rattle.executive_program.specs.Meaning.{initial_cells, cells_after}
use Rattle.executive_program.specs.declared.program.Program.{Program}
use Rattle.run_laws.specs.Windows.{window_bound, reactions_from}
use Rattle.word_rule.specs.Job.{JobData, reactions}
use Rattle.word_rule.specs.IsJob.{FitTogether, job_of, limit_of}
use Rattle.word_rule.specs.Ended.{all_acts}
use Rattle.word_rule.specs.Windows.{window, window_job}
use Rattle.word_rule.specs.Driven.{Driven, driven_by}
use Rattle.word_table.specs.Closed.{ClosedData, IsAtEnd}
use Rattle.syn_base.specs.Vectors.{Values}

-- the job of these parts over all rows, from the initial values of the delays
abbrev pub whole_job : Program → Graph → Architecture → Reactions → JobData
whole_job p g a rows = job_of p g a rows (initial_cells g.vertices)

-- a job over all rows, and the number of its next window
pub record WindowsData : Type 0 where
  pub job : JobData
  pub next : ℕ

-- a code of it, from one of the job
abbrev pub windows_code : Coded JobData → Coded WindowsData
windows_code job =
    code_by (JobData × ℕ) (coded× job coded_ℕ) (λ w. (w.job, w.next)) (λ p. record { job = p.0; next = p.1 })
    (λ _. refl)

-- the first reaction of window w
abbrev pub first_of : ℕ → ℕ
first_of w = w * window_bound

-- What windows that are still to be run keep: the parts make a job, which meets no limit; workers are 1 to 80; and
-- where there is one more window it opens with these cells, those after the reactions before it.
pub record IsOpen (a : Architecture) (workers : ℕ) (j : JobData) (next : ℕ) (opening : Values) : Type 0 where
  pub fits : FitTogether a j
  pub limit : limit_of j ≡ None
  pub some_work : 1 ≤ workers
  pub few_work : workers ≤ 80
  pub bound : first_of next < reactions j + window_bound
  pub opened : first_of next ≤ reactions j → opening ≡ cells_after j.graph j.sensors j.opening (first_of next)

-- the job of the next window
abbrev pub next_job : WindowsData → JobData
next_job w = window_job w.job (first_of w.next) (reactions_from (reactions w.job) (first_of w.next))

-- The next window was run to its end, and this is left; or there is none. After want of memory nothing was driven,
-- and there is one.
abbrev pub RunsNext : WindowsData → Driven → Driven → Result (Option ClosedData) OutOfMemory → Type 0
RunsNext w old new (Ok (Some closed)) =
    (first_of w.next < reactions w.job) × (new ≡ driven_by (next_job w) old) × IsAtEnd (next_job w) closed
    × (all_acts (next_job w) ≡
    window (first_of w.next) (reactions_from (reactions w.job) (first_of w.next)) (all_acts w.job))
RunsNext w old new (Ok None) = (reactions w.job ≤ first_of w.next) × (new ≡ old)
RunsNext w old new (Err want) = (first_of w.next < reactions w.job) × (new ≡ old)
