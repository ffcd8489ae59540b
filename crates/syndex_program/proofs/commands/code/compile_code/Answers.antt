use Rattle.std.proofs.Common.{◌∙◌, ap, length}
use Rattle.compiler.specs.Schedules.{program_by}
use Rattle.std.specs.Prelude.{Ok}
use Rattle.std.proofs.lemmas.Result.{err_from_is_err_and}
use Rattle.syn_base.specs.Bytes.{Bytes}
use Rattle.self_timed.specs.declared.Program.{Program}
use Rattle.top_plans.specs.CodeText.{macro_code}
use Rattle.top_plans.specs.Limit.{program_limit}
use Rattle.top_plans.specs.Plan.{give}
use Rattle.top_plans.proofs.Makes.{gave, memory}
use Rattle.top_plans.specs.Given.{written}
use Rattle.top_plans.specs.Plans.{macro_plan}
use Rattle.top_plans.proofs.Steps.{is_within}
use Rattle.syndex_program.proofs.Executing.{program_stops}
use Rattle.syndex_program.proofs.commands.code.compile_code.Goals as goal

pub returns-in_err-program : goal.returns-in_err-program
returns-in_err-program c =
    let given = c.args.problem.now in
    let p = err_from_is_err_and c.from_residual.result c.from_residual.ensures.1 in
    rw (p.1, p.2) (λ held. program_stops given.flat given.text.archi given.durations c.in_err-program.field-0.0 held
    (λ (p : Program). give (written (macro_code p given.flat given.text.archi))) c.in_err-program.ensures)

pub returns-in_err-print_program : goal.returns-in_err-print_program
returns-in_err-print_program c =
    let given = c.args.problem.now in
    let p = err_from_is_err_and c.from_residual-in_err-print_program.result c.from_residual-in_err-print_program.ensures.1 in
    rw (p.1, p.2) (λ held. memory held (macro_plan given.flat given.text.archi given.durations))

pub returns : goal.returns
returns c = λ held.
    let given = c.args.problem.now in
    let a = given.text.archi in
    let p = program_by given.flat a given.durations in
    is_within held held (program_limit p (length a.media)) (give (written (macro_code p given.flat a))) _ c.in_ok-program.ensures.1
    (gave held _ _ (ap (λ (x : Bytes). Ok (written x)) (c.in_ok-print_program.ensures ∙ ap (λ (q : Program). macro_code q given.flat a) c.in_ok-program.ensures.0)))
