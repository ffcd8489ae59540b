-- One window more.
use Rattle.std.proofs.Common.{◌≡◌, ℕ, suc, ◌+◌, ◌<◌, ◌≤◌, List, ◌∷◌, length, drop, take, sym, ap, subst, ◌∙◌, arith, length-take, Bool}
use Rattle.syn_base.specs.Bytes.{Bytes}
use Rattle.algo_tree.specs.Tree.{Vertex}
use Rattle.run_laws.specs.Windows.{reactions_from}
use Rattle.word_rule.specs.Windows.{window}
use Rattle.word_rule.specs.Job.{JobData, reactions}
use Rattle.word_rule.specs.Driven.{Driven, driven_by}
use Rattle.job_windows.specs.Windowed.{WindowsData, first_of, next_job}
use Rattle.top_plans.specs.Sink.{Sunk, Wrote}
use Rattle.top_plans.specs.Stage.{Stage, after_jobs, RunsSome}
use Rattle.syndex_program.specs.Left.{job_from, jobs_left, stage_from, stages_left}
use Rattle.syndex_program.proofs.Leaving.{after_next, one_more}
use Rattle.syn_base.specs.Vectors.{Values}

-- rows of a window, numbered from its first reaction on
pub few_numbers : (first s n : ℕ) (acts rows : List Values) → first < 20000 → rows ≡ window s (reactions_from n s) acts → first + length rows ≤ 18446744073709551615
few_numbers first s n acts rows l e =
    let short = ap length e ∙ length-take (reactions_from n s) (drop s acts) in omega (arith, l, short)

module _ (main : Vertex) (w : WindowsData) (d d' : Driven) (there : first_of w.next < reactions w.job) where
  pub goes : (w' : WindowsData) (text : List ℕ) → w' ≡ after_next w → text ≡ (stage_from main w.job (first_of w.next)).text → d' ≡ driven_by (next_job w) d
      → (stage : Stage JobData) × (stages_left main w ≡ stage ∷ stages_left main w') × (text ≡ stage.text) × (d' ≡ after_jobs driven_by stage.jobs d)
  goes w' text e t ran =
      let stage = stage_from main w.job (first_of w.next) in
      (stage, one_more (stage_from main w.job) w there ∙ ap (λ (x : WindowsData). stage ∷ stages_left main x) (sym e), t, ran)

  pub wants_before : d' ≡ d → (stage : Stage JobData) × (rest : List (Stage JobData)) × (stages_left main w ≡ stage ∷ rest) × RunsSome driven_by stage.jobs d d'
  wants_before e = (stage_from main w.job (first_of w.next), stages_left main (after_next w), one_more (stage_from main w.job) w there, (0, e))

  pub wants_behind : d' ≡ driven_by (next_job w) d → (stage : Stage JobData) × (rest : List (Stage JobData)) × (stages_left main w ≡ stage ∷ rest) × RunsSome driven_by stage.jobs d d'
  wants_behind e = (stage_from main w.job (first_of w.next), stages_left main (after_next w), one_more (stage_from main w.job) w there, (1, e))

-- the jobs of the windows that are left
module _ (w : WindowsData) (there : first_of w.next < reactions w.job) where
  pub jobs_here : jobs_left w ≡ next_job w ∷ jobs_left (after_next w)
  jobs_here = one_more (job_from w.job) w there

  pub jobs_after : (w' : WindowsData) (d d' : Driven) → w' ≡ after_next w → d' ≡ driven_by (next_job w) d → after_jobs driven_by (jobs_left w') d' ≡ after_jobs driven_by (jobs_left w) d
  jobs_after w' d d' e ran = (λ i. after_jobs driven_by (jobs_left (e i)) (ran i)) ∙ ap (λ js. after_jobs driven_by js d) (sym jobs_here)

  pub jobs_some : (w' : WindowsData) (d d' e : Driven) → w' ≡ after_next w → d' ≡ driven_by (next_job w) d → RunsSome driven_by (jobs_left w') d' e → RunsSome driven_by (jobs_left w) d e
  jobs_some w' d d' e same ran (n, h) = (suc n, h ∙ (λ i. after_jobs driven_by (take n (jobs_left (same i))) (ran i)) ∙ ap (λ js. after_jobs driven_by (take (suc n) js) d) (sym jobs_here))

  pub jobs_wanted : (d d' : Driven) → d' ≡ d → RunsSome driven_by (jobs_left w) d d'
  jobs_wanted d d' e = (0, e)

  pub fewer : (w' : WindowsData) → w' ≡ after_next w → length (jobs_left w') < length (jobs_left w)
  fewer w' e = let a = ap (λ (x : WindowsData). length (jobs_left x)) e in let b = ap length jobs_here in omega (arith, a, b)

-- the same of an equal text
pub wrote_as : (old new : Sunk) (t u : Bytes) (b v : Bool) → t ≡ u → b ≡ v → Wrote old new t b → Wrote old new u v
wrote_as old new t u b v e q h = subst (Wrote old new u) q (subst (λ x. Wrote old new x b) e h)
