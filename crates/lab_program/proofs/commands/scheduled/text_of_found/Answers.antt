use Rattle.std.proofs.Common.{Global, Ok, inl, inr, refl}
use Rattle.std.proofs.lemmas.Result.{err_from_is_err_and}
use Rattle.lab_words.specs.Command.{chart, code, flat, report, trace}
use Rattle.lab_words.specs.View.{effort_view}
use Rattle.lab_plans.specs.Asked.{of_schedule}
use Rattle.lab_program.specs.Found.{request_of}
use Rattle.lab_program.proofs.Schedules.{of_found}
use Rattle.lab_program.proofs.commands.scheduled.text_of_found.Goals as goal

pub print_program-requires : goal.print_program-requires
print_program-requires c = c.in_ok-schedule.ensures.valid

pub print_numbers-requires-clause-few : goal.print_numbers-requires-clause-few
print_numbers-requires-clause-few c = (rw c.in-Report.is at c.requires.counted).1

pub print_numbers-requires-clause-durations : goal.print_numbers-requires-clause-durations
print_numbers-requires-clause-durations c = c.requires.durations

pub print_numbers-requires-clause-valid : goal.print_numbers-requires-clause-valid
print_numbers-requires-clause-valid c = c.in_ok-schedule.ensures.valid

pub returns-in_err-schedule : goal.returns-in_err-schedule
returns-in_err-schedule c =
    let p = err_from_is_err_and c.from_residual.result c.from_residual.ensures.1 in
    rw (p.1, p.2) (inl refl)

pub returns-in-Code : goal.returns-in-Code
returns-in-Code c =
    let effort = effort_view c.args.effort in
    rw c.in-Code.is (of_found (of_schedule code (request_of c.args.problem.now effort)) c.in_ok-schedule.schedule _ c.in_ok-schedule.ensures (c.print_program.ensures effort))

pub returns-in_err-print_chart-in-Chart : goal.returns-in_err-print_chart-in-Chart
returns-in_err-print_chart-in-Chart c =
    let p = err_from_is_err_and c.from_residual-in_err-print_chart-in-Chart.result c.from_residual-in_err-print_chart-in-Chart.ensures.1 in
    rw (p.1, p.2) (inl refl)

pub returns-in-Chart : goal.returns-in-Chart
returns-in-Chart c =
    let effort = effort_view c.args.effort in
    rw c.in-Chart.is (of_found {A = Global} (of_schedule chart (request_of c.args.problem.now effort)) c.in_ok-schedule.schedule
    (Ok c.in_ok-print_chart-in-Chart.field-0) c.in_ok-schedule.ensures (inr c.in_ok-print_chart-in-Chart.ensures))

pub returns-in_err-print_trace-in-Trace : goal.returns-in_err-print_trace-in-Trace
returns-in_err-print_trace-in-Trace c =
    let p = err_from_is_err_and c.from_residual-in_err-print_trace-in-Trace.result c.from_residual-in_err-print_trace-in-Trace.ensures.1 in
    rw (p.1, p.2) (inl refl)

pub returns-in-Trace : goal.returns-in-Trace
returns-in-Trace c =
    let effort = effort_view c.args.effort in
    rw c.in-Trace.is (of_found {A = Global} (of_schedule trace (request_of c.args.problem.now effort)) c.in_ok-schedule.schedule
    (Ok c.in_ok-print_trace-in-Trace.field-0) c.in_ok-schedule.ensures (inr c.in_ok-print_trace-in-Trace.ensures))

pub returns-in_err-print_flat-in-Flat : goal.returns-in_err-print_flat-in-Flat
returns-in_err-print_flat-in-Flat c =
    let p = err_from_is_err_and c.from_residual-in_err-print_flat-in-Flat.result c.from_residual-in_err-print_flat-in-Flat.ensures.1 in
    rw (p.1, p.2) (inl refl)

pub returns-in-Flat : goal.returns-in-Flat
returns-in-Flat c =
    let effort = effort_view c.args.effort in
    rw c.in-Flat.is (of_found {A = Global} (of_schedule flat (request_of c.args.problem.now effort)) c.in_ok-schedule.schedule
    (Ok c.in_ok-print_flat-in-Flat.field-0) c.in_ok-schedule.ensures (inr c.in_ok-print_flat-in-Flat.ensures))

pub returns-in_err-print_numbers-in-Report : goal.returns-in_err-print_numbers-in-Report
returns-in_err-print_numbers-in-Report c =
    let p = err_from_is_err_and c.from_residual-in_err-print_numbers-in-Report.result c.from_residual-in_err-print_numbers-in-Report.ensures.1 in
    rw (p.1, p.2) (inl refl)

pub returns : goal.returns
returns c =
    let effort = effort_view c.args.effort in
    rw c.in-Report.is (of_found {A = Global}
    (of_schedule (report c.in-Report.reactions) (request_of c.args.problem.now effort)) c.in_ok-schedule.schedule
    (Ok c.in_ok-print_numbers-in-Report.field-0) c.in_ok-schedule.ensures (inr c.in_ok-print_numbers-in-Report.ensures))
