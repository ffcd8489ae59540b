use Rattle.std.proofs.Common.{subst}
use Rattle.std.proofs.lemmas.Result.{err_from_is_err_and}
use Rattle.sequence_build_laws.specs.declared.Schedule.{Schedule}
use Rattle.compiler.specs.Builds.{BuildsProgram}
use Rattle.compiler.proofs.stages.compile_to_program.Goals as goal

pub returns-in_err-schedule : goal.returns-in_err-schedule
returns-in_err-schedule c =
    let p = err_from_is_err_and c.from_residual.result c.from_residual.ensures.1 in
    rw (p.1, p.2) tt

pub returns : goal.returns
returns c =
    let given = c.args.problem.now in
    subst (λ (s : Schedule). BuildsProgram given.flat given.text.archi s c.build_program.result) c.in_ok-schedule.ensures.run c.build_program.ensures
