use Rattle.std.proofs.Common.{subst}
use Rattle.compiler.specs.Schedules.{schedule_of}
use Rattle.std.specs.Prelude.{Ok, Err}
use Rattle.std.proofs.lemmas.Result.{err_from_is_err_and}
use Rattle.self_timed.specs.declared.ArchiText.{ArchiText}
use Rattle.self_timed.specs.declared.Program.{Program}
use Rattle.self_timed.specs.Graph.{Graph}
use Rattle.top_plans.specs.Run.{Makes}
use Rattle.top_plans.specs.Status.{ending_of, status_of_build}
use Rattle.top_plans.specs.Plans.{execution, execution_plan, program_plan}
use Rattle.compiler.specs.Builds.{BuildsProgram}
use Rattle.syndex_program.specs.Executes.{executed_in}
use Rattle.syndex_program.proofs.Executing.{built_so, program_stops}
use Rattle.syndex_program.proofs.execution.compile_execution.Goals as goal

pub execution_of-requires-clause-formed : goal.execution_of-requires-clause-formed
execution_of-requires-clause-formed c = rw (c.into_parts-flat.ensures.flat, c.into_parts-flat.ensures.text) c.in_ok-program.ensures.2

pub returns-in_err-program-clause-makes : goal.returns-in_err-program-clause-makes
returns-in_err-program-clause-makes c =
    let h = c.args.problem in
    let main = c.args.algorithm.tree in
    let e = c.in_err-program.field-0.0 in
    let p = err_from_is_err_and c.from_residual.result c.from_residual.ensures.1 in
    rw (p.1, p.2) (λ held.
    subst (λ (f : Graph). Makes held held
    (program_plan f h.text.archi h.durations (λ (q : Program). execution_plan (execution main h.text.archi q c.args.rows) (λ e. e)))
    (Err (ending_of (status_of_build e)))) c.requires.flat
    (program_stops h.flat h.text.archi h.durations e held (λ (q : Program). execution_plan (execution main h.text.archi q c.args.rows) (λ e. e)) c.in_err-program.ensures))

pub returns-clause-makes : goal.returns-clause-makes
returns-clause-makes c = λ held.
    let h = c.args.problem in
    let a = h.text.archi in
    let main = c.args.algorithm.tree in
    let p = c.in_ok-program.program in
    let made = executed_in c.execution_of.result in
    let b = subst (λ (f : Graph). BuildsProgram f a (schedule_of f a h.durations) (Ok p)) c.requires.flat c.in_ok-program.ensures in
    built_so main a c.args.rows p held h.durations made b.0 b.1
    (subst (λ (t : ArchiText). Makes held held (execution_plan (execution main t.archi p c.args.rows) (λ e. e)) made) c.into_parts-flat.ensures.text (c.execution_of.ensures.makes held))
