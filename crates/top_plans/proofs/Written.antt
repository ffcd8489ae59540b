-- What executions write and run.
use Rattle.std.proofs.Common.{◌≡◌, ℕ, zero, suc, List, [], ◌∷◌, ◌++◌, map, length, refl, sym, ap, ◌∙◌, arith, append-nil, length-append}
use Rattle.compiler.specs.Executions.{Execution, one_job, acts_of, output_of}
use Rattle.std.specs.List.{flat_map}
use Rattle.std.proofs.lemmas.List.{length-map}
use Rattle.algo_rules.specs.Meaning.{act_row}
use Rattle.word_rule.specs.Windows.{window_job}
use Rattle.command_status.specs.Stage.{text_of, jobs_of}
use Rattle.accepted_laws.specs.ActNames.{actuator_names}
use Rattle.run_laws.specs.Windows.{starts, reactions_from, window_jobs, window_text}
use Rattle.run_laws.proofs.Texts.{windows_tell}
use Rattle.top_plans.specs.Given.{window_stage, window_stages}
use Rattle.top_plans.specs.Meaning.{WindowsWriteTheOutput, WindowsAreRun}
use Rattle.syn_base.specs.Numbers.{numbers_below}

long_below : (m : ℕ) → length (numbers_below m) ≡ m
long_below zero = refl
long_below (suc m) = length-append (numbers_below m) (m ∷ []) ∙ (let e = long_below m in omega (arith, e))

module _ (e : Execution) where
  abbrev texts : ℕ → List ℕ
  texts = window_text (actuator_names e.main) (acts_of e.main e.rows.reactions)

  texts_of : (ss : List ℕ) → text_of (map (window_stage e) ss) ≡ flat_map texts ss
  texts_of [] = refl
  texts_of (s ∷ ss) = ap (λ t. texts s ++ t) (texts_of ss)

  jobs_in : (ss : List ℕ) → jobs_of (map (window_stage e) ss) ≡ map (λ s. window_job (one_job e) s (reactions_from (length e.rows.reactions) s)) ss
  jobs_in [] = refl
  jobs_in (s ∷ ss) = ap (λ js. window_job (one_job e) s (reactions_from (length e.rows.reactions) s) ∷ js) (jobs_in ss)

  as_many : length (acts_of e.main e.rows.reactions) ≡ length e.rows.reactions
  as_many = length-map (numbers_below (length e.rows.reactions)) (act_row e.main e.rows.reactions) ∙ long_below (length e.rows.reactions)

  whole : text_of (window_stages e) ≡ output_of e.main e.rows.reactions
  whole = texts_of (starts (length e.rows.reactions)) ∙ ap (λ n. flat_map texts (starts n)) (sym as_many) ∙ windows_tell (actuator_names e.main) (acts_of e.main e.rows.reactions)

pub windows_write : WindowsWriteTheOutput
windows_write text e = (ap (λ t. text ++ t) (whole e), whole e, append-nil text)

pub windows_run : WindowsAreRun
windows_run text e = (jobs_in e (starts (length e.rows.reactions)), jobs_in e (starts (length e.rows.reactions)), append-nil (window_jobs (one_job e)))
