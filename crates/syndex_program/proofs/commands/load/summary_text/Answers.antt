use Rattle.std.proofs.Common.{◌≡◌, ◌∙◌, ℕ, ℤ, List, length, refl, sym, ap, subst, arith, rules, to_z, of_z, w64, FitsSigned}
use Rattle.compiler.specs.Executions.{Execution, acts_of, one_job}
use Rattle.std.specs.Prelude.{Result, Ok, Err, Vec, IfOk, OnErr}
use Rattle.std.specs.Int.{int_wrap}
use Rattle.std.proofs.Math.Facts.{to_z-of_z}
use Rattle.std.proofs.lemmas.Int.{int_wrap_fits}
use Rattle.std.proofs.lemmas.List.{take_all}
use Rattle.std.proofs.lemmas.Result.{err_from_is_err_and}
use Rattle.syn_base.specs.Bytes.{Bytes}
use Rattle.algo_tree.specs.Ends.{actuator_lengths}
use Rattle.run_laws.specs.Windows.{window_jobs}
use Rattle.syn_base.specs.Arithmetic.{wrapped}
use Rattle.word_rule.specs.Ended.{all_acts}
use Rattle.word_rule.specs.Job.{JobData}
use Rattle.word_rule.specs.Driven.{Driven, driven_by}
use Rattle.job_windows.specs.Windowed.{WindowsData}
use Rattle.top_plans.specs.Flat.{HasFlat}
use Rattle.top_plans.specs.Stage.{after_jobs, RunsSome}
use Rattle.top_plans.specs.Plans.{sum_of, summary, summary_with}
use Rattle.syndex_program.specs.Executes.{executed}
use Rattle.syndex_program.specs.Left.{jobs_left}
use Rattle.syndex_program.specs.Sums.{AreFew, total_left, total_of}
use Rattle.syndex_program.proofs.Leaving.{all_jobs, few_acts, same_acts}
use Rattle.syndex_program.proofs.commands.load.summary_text.Goals as goal
use Rattle.syn_base.specs.Vectors.{Values}
use Rattle.self_timed.specs.FlatLaws.{actuator_lens}

few_job : (e : Execution) → HasFlat e.main → AreFew (length (actuator_lens (one_job e).graph (one_job e).graph.vertices)) (all_acts (one_job e))
few_job e has =
    subst (λ (n : ℕ). AreFew n (all_acts (one_job e))) (sym (ap length has.lengths.actuators))
    (subst (λ (acts : List Values). AreFew (length (actuator_lengths e.main)) acts) (sym (same_acts e has)) (few_acts e.main e.rows.reactions))

module _ {T E : Type 0} where
  if_ok : (r : Result T E) (X : Type 0) → X → IfOk r (λ t. X)
  if_ok (Ok t) X x = x
  if_ok (Err e) X x = tt

  on_err : (r : Result T E) (X : Type 0) → X → OnErr r X
  on_err (Ok t) X x = tt
  on_err (Err e) X x = x

wrapped_fits : (z : ℤ) → FitsSigned w64 z → wrapped z ≡ z
unfolding int_wrap
wrapped_fits z fits = int_wrap_fits w64 z fits

-- the sum over all windows
module _ (e : Execution) (w : WindowsData) (at : w ≡ record { job = one_job e; next = 0 }) where
  sum_is : HasFlat e.main → (sum : ℤ) → FitsSigned w64 sum → wrapped sum ≡ wrapped (total_left w) → sum ≡ sum_of (acts_of e.main e.rows.reactions)
  sum_is has sum fits same =
      sym (wrapped_fits sum fits) ∙ same ∙ ap (λ (v : WindowsData). wrapped (total_left v)) at
      ∙ ap (λ (acts : List Values). wrapped (total_of acts)) (same_acts e has)

  jobs_are : jobs_left w ≡ window_jobs (one_job e)
  jobs_are = ap jobs_left at ∙ all_jobs (one_job e)

  all_ran : (d d' : Driven) → d' ≡ after_jobs driven_by (jobs_left w) d → d' ≡ after_jobs driven_by (window_jobs (one_job e)) d
  all_ran d d' ran = ran ∙ ap (λ (js : List JobData). after_jobs driven_by js d) jobs_are

  some_ran : (d d' : Driven) → d' ≡ after_jobs driven_by (jobs_left w) d → RunsSome driven_by (window_jobs (one_job e)) d d'
  some_ran d d' ran =
      let js = window_jobs (one_job e) in
      (length js, all_ran d d' ran ∙ ap (λ (xs : List JobData). after_jobs driven_by xs d) (sym (take_all (length js) js (omega arith))))

  some_went : (d d' : Driven) → RunsSome driven_by (jobs_left w) d d' → RunsSome driven_by (window_jobs (one_job e)) d d'
  some_went d d' h = subst (λ (js : List JobData). RunsSome driven_by js d d') jobs_are h

if_ok_as : {A E : Type 0} (r : Result (Vec ℕ A) E) (t u : Bytes) → t ≡ u → IfOk r (λ v. v.items ≡ t) → IfOk r (λ v. v.items ≡ u)
if_ok_as (Ok v) t u e h = h ∙ e
if_ok_as (Err x) t u e h = tt

pub sum_of-requires : goal.sum_of-requires
sum_of-requires g c =
    let few : AreFew (length (actuator_lens c.in_ok-windows.windows.job.graph c.in_ok-windows.windows.job.graph.vertices)) (all_acts c.in_ok-windows.windows.job) =
    subst (λ (v : WindowsData). AreFew (length (actuator_lens v.job.graph v.job.graph.vertices)) (all_acts v.job)) (sym c.in_ok-windows.ensures)
    (few_job (executed c.args.execution.now) c.requires.has) in
    (c.type_bounds.sync-R, (c.type_bounds.sync-G, few))

pub returns-in_err-windows-clause-some : goal.returns-in_err-windows-clause-some
returns-in_err-windows-clause-some g c =
    let p = err_from_is_err_and c.from_residual.result c.from_residual.ensures.1 in
    rw p.1 (0, refl)

pub returns-in_err-sum-clause-some : goal.returns-in_err-sum-clause-some
returns-in_err-sum-clause-some g c =
    let p = err_from_is_err_and c.from_residual-in_err-sum.result c.from_residual-in_err-sum.ensures.1 in
    rw p.1 (some_went (executed c.args.execution.now) c.in_ok-windows.windows c.in_ok-windows.ensures c.args.driven.now c.sum_of.new.driven c.in_err-sum.ensures.some)

pub returns-clause-text : goal.returns-clause-text
returns-clause-text g c =
    let e = executed c.args.execution.now in
    let sum = to_z w64 (of_z w64 c.in_ok-sum.sum) in
    let back : to_z w64 (of_z w64 c.in_ok-sum.sum) ≡ c.in_ok-sum.sum = search (rules, to_z-of_z) in
    let fits : FitsSigned w64 c.in_ok-sum.sum = search rules in
    let is : c.in_ok-sum.sum ≡ sum_of (acts_of e.main e.rows.reactions) = sum_is e c.in_ok-windows.windows c.in_ok-windows.ensures c.requires.has c.in_ok-sum.sum fits c.in_ok-sum.ensures.sum in
    if_ok_as c.summary_with.result (summary_with e sum) (summary e) (ap (λ (z : ℤ). summary_with e z) (back ∙ is)) c.summary_with.ensures

pub returns-clause-ran : goal.returns-clause-ran
returns-clause-ran g c =
    let e = executed c.args.execution.now in
    if_ok c.summary_with.result (c.sum_of.new.driven ≡ after_jobs driven_by (window_jobs (one_job e)) c.args.driven.now)
    (all_ran e c.in_ok-windows.windows c.in_ok-windows.ensures c.args.driven.now c.sum_of.new.driven c.in_ok-sum.ensures.ran)

pub returns-clause-some : goal.returns-clause-some
returns-clause-some g c =
    let e = executed c.args.execution.now in
    on_err c.summary_with.result (RunsSome driven_by (window_jobs (one_job e)) c.args.driven.now c.sum_of.new.driven)
    (some_ran e c.in_ok-windows.windows c.in_ok-windows.ensures c.args.driven.now c.sum_of.new.driven c.in_ok-sum.ensures.ran)
