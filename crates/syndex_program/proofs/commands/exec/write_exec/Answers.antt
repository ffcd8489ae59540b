use Rattle.std.proofs.Common.{List, inl, inr, refl, subst, sym}
use Rattle.word_rule.specs.Job.{JobData}
use Rattle.word_rule.specs.Driven.{driven_by}
use Rattle.top_plans.specs.Ending.{Ending}
use Rattle.top_plans.specs.Run.{Performs}
use Rattle.top_plans.specs.Stage.{Stage}
use Rattle.top_plans.specs.Status.{Refusal}
use Rattle.top_plans.specs.Given.{window_stages}
use Rattle.syndex_program.specs.Executes.{executed}
use Rattle.syndex_program.specs.Stopped as windows
use Rattle.syndex_program.proofs.commands.exec.write_exec.Goals as goal

pub returns-in-Ok : goal.returns-in-Ok
returns-in-Ok g c =
    let K = g.K.Sink.sunk in
    let d = c.args.driven.now in
    let d' = c.write_lines.new.driven in
    inl (subst (λ (ending : Ending Refusal). Performs driven_by (window_stages (executed c.args.execution.now)) (K c.args.out.now) (K c.write_lines.new.out) d d' ending) (sym c.status_of.ensures)
    (subst (λ (xs : List (Stage JobData)). Performs {R = Refusal} driven_by xs (K c.args.out.now) (K c.write_lines.new.out) d d'
    (windows.ending_of c.write_lines.result)) c.in-Ok.ensures c.write_lines.ensures))

pub returns-in-Err : goal.returns-in-Err
returns-in-Err g c = inr (refl, refl, refl)
