use Rattle.std.proofs.Common.{◌≡◌, ◌∙◌, List, [], ◌∷◌, refl, subst, inl, inr}
use Rattle.compiler.specs.Executions.{one_job}
use Rattle.std.specs.Prelude.{false}
use Rattle.syn_base.specs.Bytes.{Bytes}
use Rattle.run_laws.specs.Windows.{window_jobs}
use Rattle.word_rule.specs.Job.{JobData}
use Rattle.word_rule.specs.Driven.{Driven, driven_by}
use Rattle.top_plans.specs.Sink.{Sunk, Appends, Wrote}
use Rattle.top_plans.specs.Ending.{Ending, done, refused, unread, unwritten, no_memory}
use Rattle.top_plans.specs.Run.{Performs, Writes}
use Rattle.top_plans.specs.Stage.{after_jobs}
use Rattle.top_plans.specs.Status.{Refusal, ending_of}
use Rattle.top_plans.specs.Plans.{summary}
use Rattle.syndex_program.specs.Executes.{executed}
use Rattle.syndex_program.proofs.commands.load.write_load.Goals as goal

-- a text that is written after jobs were run
module _ (jobs : List JobData) (text text' : Bytes) (sunk sunk' : Sunk) (d d' : Driven) (same : text ≡ text') (ran : d' ≡ after_jobs driven_by jobs d) where
  written_after : (ending : Ending Refusal) → Writes text sunk sunk' ending → Performs driven_by (record { jobs = jobs; text = text' } ∷ []) sunk sunk' d d' ending
  written_after done h = inr (sunk', subst (λ (t : Bytes). Appends sunk sunk' t) same h, (refl, refl, ran))
  written_after unwritten h = inl (subst (λ (t : Bytes). Wrote sunk sunk' t false) same h, ran)
  written_after no_memory h = absurd h
  written_after (refused refusal) h = absurd h
  written_after (unread file) h = absurd h

pub returns-in-Ok : goal.returns-in-Ok
returns-in-Ok g c =
    let K = g.K.Sink.sunk in
    let e = executed c.args.execution.now in
    written_after (window_jobs (one_job e)) c.deref.result.now (summary e) (K c.args.out.now) (K c.put_text.new.out) c.args.driven.now c.summary_text.new.driven
    (c.deref.ensures.value ∙ c.in-Ok.ensures.text) c.in-Ok.ensures.ran (ending_of c.put_text.result) c.put_text.ensures

pub returns-in-Err : goal.returns-in-Err
returns-in-Err g c = inl (refl, c.in-Err.ensures.some)
