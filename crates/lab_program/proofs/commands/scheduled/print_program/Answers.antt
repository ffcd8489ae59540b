use Rattle.std.proofs.Common.{◌∙◌, ◌++◌, Global, ap, inl, refl}
use Rattle.std.proofs.lemmas.Result.{err_from_is_err_and}
use Rattle.syn_base.specs.Bytes.{Bytes}
use Rattle.self_timed.specs.declared.Program.{Program}
use Rattle.top_plans.specs.CodeText.{macro_code}
use Rattle.lab_plans.specs.Answers.{program}
use Rattle.lab_program.specs.Found.{request_of}
use Rattle.lab_program.proofs.Schedules.{built, not_built}
use Rattle.lab_program.proofs.commands.scheduled.print_program.Goals as goal

pub returns-in_err-program : goal.returns-in_err-program
returns-in_err-program c =
    let p = err_from_is_err_and c.from_residual.result c.from_residual.ensures.1 in
    let given = c.args.problem.now in
    rw (p.1, p.2) (λ effort. let q = request_of given effort in
    not_built Global q c.args.schedule.now (macro_code (program q c.args.schedule.now) given.flat given.text.archi) c.in_err-program.field-0.0 c.in_err-program.ensures)

pub returns-in_err-print_code : goal.returns-in_err-print_code
returns-in_err-print_code c =
    let p = err_from_is_err_and c.from_residual-in_err-print_code.result c.from_residual-in_err-print_code.ensures.1 in
    rw (p.1, p.2) (λ effort. inl refl)

pub returns : goal.returns
returns c = λ effort.
    let given = c.args.problem.now in
    let q = request_of given effort in
    let is = c.in_ok-program.ensures in
    built q c.args.schedule.now (macro_code (program q c.args.schedule.now) given.flat given.text.archi) _ is.1
    (c.in_ok-print_code.ensures.text ∙ ap (λ (t : Bytes). t ++ macro_code c.in_ok-program.program given.flat given.text.archi) c.new-text.ensures.items
    ∙ ap (λ (x : Program). macro_code x given.flat given.text.archi) is.0)
