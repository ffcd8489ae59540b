use Rattle.std.proofs.Common.{refl}
use Rattle.std.specs.Prelude.{Ok}
use Rattle.std.proofs.lemmas.Result.{err_from_is_err_and}
use Rattle.top_plans.proofs.Makes.{gave}
use Rattle.lab_words.specs.Help.{help_text}
use Rattle.lab_plans.specs.Asked.{of_text}
use Rattle.lab_program.proofs.Carried.{no_schedule, wanted}
use Rattle.lab_program.proofs.commands.help.list_text.Goals as goal

pub returns-in_err-help_text : goal.returns-in_err-help_text
returns-in_err-help_text c =
    let p = err_from_is_err_and c.from_residual.result c.from_residual.ensures.1 in
    rw (p.1, p.2) (λ held. wanted _ held _ refl)

pub returns : goal.returns
returns c = λ held. (Ok (of_text help_text), gave held _ _ refl, (no_schedule, tt, c.in_ok-help_text.ensures))
