use Rattle.std.proofs.Common.{◌∙◌, List, ap, inr, subst, true}
use Rattle.std.specs.Prelude.{not}
use Rattle.word_rule.specs.Job.{JobData}
use Rattle.word_rule.specs.Driven.{driven_by}
use Rattle.top_plans.specs.Run.{Performs}
use Rattle.top_plans.specs.Stage.{Stage}
use Rattle.top_plans.specs.Status.{Refusal}
use Rattle.top_plans.specs.Plans.{head}
use Rattle.syndex_program.specs.Executes.{executed}
use Rattle.syndex_program.specs.Stopped as windows
use Rattle.syndex_program.proofs.Going.{wrote_as}
use Rattle.syndex_program.proofs.commands.run.write_parts.Goals as goal

pub returns : goal.returns
returns g c =
    let K = g.K.Sink.sunk in
    let e = executed c.args.execution.now in
    inr (
      K c.write_whole.new.sink,
      wrote_as (K c.args.out.now) (K c.write_whole.new.sink) c.deref.result.now (head e) _ true (c.deref.ensures.value ∙ c.in-Ok.ensures)
          (c.is_err.ensures.negation ∙ ap not c.if-is_err.false) c.write_whole.ensures,
      subst (λ (xs : List (Stage JobData)). Performs {R = Refusal} driven_by xs (K c.write_whole.new.sink)
          (K c.write_lines.new.out) c.args.driven.now c.write_lines.new.driven (windows.ending_of c.write_lines.result))
          c.in-Ok-lines_of.ensures c.write_lines.ensures,
    )
