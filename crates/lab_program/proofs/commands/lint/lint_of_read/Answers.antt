use Rattle.std.proofs.Common.{refl}
use Rattle.std.specs.Prelude.{Ok}
use Rattle.std.proofs.lemmas.Result.{err_from_is_err_and}
use Rattle.top_plans.proofs.Makes.{gave}
use Rattle.lab_plans.specs.Asked.{of_text}
use Rattle.lab_plans.specs.Plans.{lint_of_algorithm}
use Rattle.lab_program.proofs.Carried.{no_schedule, wanted}
use Rattle.lab_program.proofs.commands.lint.lint_of_read.Goals as goal

pub returns-in-Some-clause-carries : goal.returns-in-Some-clause-carries
returns-in-Some-clause-carries g c = rw c.in-Some.is c.lint_both.ensures.carries

pub returns-in_err-print_algorithm-in-None-clause-carries : goal.returns-in_err-print_algorithm-in-None-clause-carries
returns-in_err-print_algorithm-in-None-clause-carries g c =
    let p = err_from_is_err_and c.from_residual.result c.from_residual.ensures.1 in
    rw (p.1, p.2, c.in-None.is) (wanted _ (g.S.Shelf.held c.args.shelf.now) _ refl)

pub returns-in_ok-print_algorithm-in-None-clause-carries : goal.returns-in_ok-print_algorithm-in-None-clause-carries
returns-in_ok-print_algorithm-in-None-clause-carries g c =
    rw c.in-None.is
    (Ok (of_text (lint_of_algorithm c.args.algorithm.now.defs)), gave (g.S.Shelf.held c.args.shelf.now) _ _ refl, (no_schedule, tt, c.in_ok-print_algorithm-in-None.ensures))
