-- What an accepted command makes, and the stages in which it is made.
use Rattle.std.specs.Prelude.{ℕ, List, [], ◌∷◌, map, length, Ok}
use Rattle.syn_base.specs.Bytes.{Bytes}
use Rattle.word_rule.specs.Job.{JobData}
use Rattle.word_rule.specs.Windows.{window_job}
use Rattle.compiler.specs.Executions.{Execution, one_job, acts_of}
use Rattle.command_status.specs.Answer.{Answer, exactly, one_text}
use Rattle.command_status.specs.Stage.{Stage}
use Rattle.command_status.specs.Status.{Refusal}
use Rattle.accepted_laws.specs.ActNames.{actuator_names}
use Rattle.run_laws.specs.Windows.{starts, reactions_from, window_jobs, window_text}

-- What is to be made: a text by itself; a text, and after it what a program that is executed gives; what it gives
-- alone; or a text for which a program is executed.
pub data Given : Type 0 where
  written : Bytes → Given
  printed : Bytes → Execution → Given
  executed : Execution → Given
  summed : Execution → Bytes → Given

-- the window that begins with reaction s: its job, and then its lines
abbrev pub window_stage : Execution → ℕ → Stage JobData
window_stage e s = record {
  jobs = window_job (one_job e) s (reactions_from (length e.rows.reactions) s) ∷ [];
  text = window_text (actuator_names e.main) (acts_of e.main e.rows.reactions) s;
}

-- The stages of an execution, one for each window of at most 256 reactions, in their order.
abbrev pub window_stages : Execution → List (Stage JobData)
window_stages e = map (window_stage e) (starts (length e.rows.reactions))

-- A text by itself is written by one call; windows are written one after another
abbrev pub stages : Given → List (Stage JobData)
stages (written text) = one_text text
stages (printed text e) = record { jobs = []; text = text } ∷ window_stages e
stages (executed e) = window_stages e
stages (summed e text) = record { jobs = window_jobs (one_job e); text = text } ∷ []

-- Exactly these stages are the answer for what is given.
abbrev pub performed : Given → (Answer Refusal JobData → Type 0) → Type 0
performed = exactly (λ given. Ok (stages given))
