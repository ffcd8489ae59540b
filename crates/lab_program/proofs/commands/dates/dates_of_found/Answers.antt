use Rattle.std.proofs.Common.{inl, refl}
use Rattle.std.proofs.lemmas.Result.{err_from_is_err_and}
use Rattle.lab_words.specs.View.{effort_view, form_view}
use Rattle.lab_plans.specs.Asked.{of_dates}
use Rattle.lab_program.specs.Found.{request_of}
use Rattle.lab_program.proofs.Schedules.{of_found}
use Rattle.lab_program.proofs.commands.dates.dates_of_found.Goals as goal

pub date_reactions-requires-clause-valid : goal.date_reactions-requires-clause-valid
date_reactions-requires-clause-valid c = c.in_ok-schedule.ensures.valid

pub returns-in_err-schedule : goal.returns-in_err-schedule
returns-in_err-schedule c =
    let p = err_from_is_err_and c.from_residual.result c.from_residual.ensures.1 in
    rw (p.1, p.2) (inl refl)

pub returns : goal.returns
returns c =
    let effort = effort_view c.args.extent.effort in
    of_found (of_dates (form_view c.args.extent.form)
    (request_of c.args.problem.now effort) c.args.text.now c.args.extent.reactions) c.in_ok-schedule.schedule _
    c.in_ok-schedule.ensures (c.date_reactions.ensures effort)
