-- The windows that are left of an execution, with their lines and their jobs.
use Rattle.std.specs.Prelude.{ℕ, ◌-◌, List, [], ◌∷◌, map}
use Rattle.compiler.specs.Executions.{acts_of}
use Rattle.std.specs.List.{range_with_len}
use Rattle.algo_tree.specs.Tree.{Vertex}
use Rattle.word_rule.specs.Job.{JobData, reactions}
use Rattle.word_rule.specs.Windows.{window_job}
use Rattle.run_laws.specs.Windows.{windows_in, reactions_from, window_text}
use Rattle.top_plans.specs.ActNames.{actuator_names}
use Rattle.top_plans.specs.Stage.{Stage}
use Rattle.job_windows.specs.Windowed.{WindowsData, first_of}

-- the first reactions of the windows that are left
abbrev pub starts_left : WindowsData → List ℕ
starts_left w = map first_of (range_with_len w.next (windows_in (reactions w.job) - w.next))

-- the job of the window that begins with reaction s
abbrev pub job_from : JobData → ℕ → JobData
job_from j s = window_job j s (reactions_from (reactions j) s)

abbrev pub jobs_left : WindowsData → List JobData
jobs_left w = map (job_from w.job) (starts_left w)

-- the window that begins with reaction s, with its lines
abbrev pub stage_from : Vertex → JobData → ℕ → Stage JobData
stage_from main j s =
    record { jobs = job_from j s ∷ []; text = window_text (actuator_names main) (acts_of main j.sensors) s }

abbrev pub stages_left : Vertex → WindowsData → List (Stage JobData)
stages_left main w = map (stage_from main w.job) (starts_left w)
