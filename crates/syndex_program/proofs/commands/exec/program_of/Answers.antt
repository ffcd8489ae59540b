use Rattle.std.proofs.Common.{refl}
use Rattle.compiler.specs.declared.checked_error.CheckedError.TheVariants.{Text, Lacks}
use Rattle.syndex_program.proofs.Coded.{is_program}
use Rattle.syndex_program.proofs.commands.exec.program_of.Goals as goal

pub returns-in-Ok : goal.returns-in-Ok
returns-in-Ok c = is_program c.args.flat.now c.args.archi.now c.args.text.now c.in-Ok.program c.operators-operators.ensures.valid c.in-Ok.ensures.0 c.in-Ok.ensures.1

pub returns-in-Err-Text : goal.returns-in-Err-Text
returns-in-Err-Text c = (Text c.in-Err-Text.error, rw c.in-Err-Text.field-0-is at c.in-Err-Text.ensures, c.from.ensures)

pub returns-in-Err-Lacks : goal.returns-in-Err-Lacks
returns-in-Err-Lacks c = (Lacks c.in-Err-Lacks.cause, rw c.in-Err-Lacks.field-0-is at c.in-Err-Lacks.ensures, refl)
