use Rattle.std.proofs.Common.{◌≡◌, Result, inl, refl, subst}
use Rattle.std.specs.Prelude.{Ok}
use Rattle.std.proofs.lemmas.Result.{err_from_is_err_and}
use Rattle.top_plans.specs.ReadText.{program_in}
use Rattle.top_plans.proofs.Makes.{after_ok, gave}
use Rattle.top_plans.specs.Status.{of_code}
use Rattle.top_plans.specs.declared.Status.TheVariants.{OutOfMemory}
use Rattle.lab_plans.specs.Asked.{of_text}
use Rattle.lab_plans.specs.Plans.{why_answer, why_of_code}
use Rattle.lab_program.proofs.Carried.{code_refused, no_schedule, wanted}
use Rattle.lab_program.proofs.commands.why.answer_of.Goals as goal

pub returns-in_err-program : goal.returns-in_err-program
returns-in_err-program c =
    let p = err_from_is_err_and c.from_residual.result c.from_residual.ensures.1 in
    rw (p.1, p.2) (λ held. code_refused c.args.flat.now c.args.archi.now c.args.text.now held c.in_err-program.field-0.0 c.in_err-program.ensures)

pub returns-then-not-loops_are_short : goal.returns-then-not-loops_are_short
returns-then-not-loops_are_short c = λ held. wanted (why_of_code c.args.flat.now c.args.archi.now c.args.text.now) held OutOfMemory refl

pub returns-in_err-print_why : goal.returns-in_err-print_why
returns-in_err-print_why c =
    let p = err_from_is_err_and c.from_residual-in_err-print_why.result c.from_residual-in_err-print_why.ensures.1 in
    rw (p.1, p.2) (λ held. wanted (why_of_code c.args.flat.now c.args.archi.now c.args.text.now) held OutOfMemory refl)

pub returns : goal.returns
returns c = λ held.
    let g = c.args.flat.now in
    let a = c.args.archi.now in
    let text = c.args.text.now in
    let p = c.in_ok-program.program in
    (Ok (of_text (why_answer text g a p)), after_ok held held of_code (program_in text g a) _ _ p c.in_ok-program.ensures (gave held _ _ refl), (no_schedule, tt, c.in_ok-print_why.ensures))
