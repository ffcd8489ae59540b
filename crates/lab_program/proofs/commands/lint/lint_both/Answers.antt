use Rattle.std.proofs.Common.{◌∙◌, ap, refl, subst}
use Rattle.std.specs.Prelude.{Err, Ok}
use Rattle.std.proofs.lemmas.Result.{err_from_is_err_and}
use Rattle.syn_base.specs.Bytes.{Bytes}
use Rattle.self_timed.specs.Text.{Described, described_by}
use Rattle.self_timed.specs.Table.{Table}
use Rattle.top_plans.specs.declared.File.TheVariants.{Architecture}
use Rattle.top_plans.specs.Plan.{give}
use Rattle.top_plans.specs.Run.{not_read}
use Rattle.top_plans.proofs.Makes.{gave}
use Rattle.top_plans.specs.Status.{ending_of, status_of_architecture}
use Rattle.top_plans.specs.Plans.{architecture_in}
use Rattle.compiler.specs.Compiles.{IsProblem, MakesProblem}
use Rattle.top_plans.proofs.Architectures.{refused_so}
use Rattle.lab_plans.specs.Asked.{of_text}
use Rattle.lab_plans.specs.Plans.{Asks, lint_of_both}
use Rattle.lab_program.proofs.Carried.{compiled_in, no_schedule, read_on, stopped, wanted}
use Rattle.lab_program.proofs.commands.lint.lint_both.Goals as goal

pub returns-in_err-text-clause-carries : goal.returns-in_err-text-clause-carries
returns-in_err-text-clause-carries g c =
    let H = g.S.Shelf.held in
    let p = err_from_is_err_and c.from_residual.result c.from_residual.ensures.1 in
    rw (p.1, p.2) (stopped _ (H c.args.shelf.now) (H c.read_file.new.shelf) c.in_err-text.field-0.0 (not_read c.in_err-text.ensures.not_read))

pub returns-in_err-problem-clause-carries : goal.returns-in_err-problem-clause-carries
returns-in_err-problem-clause-carries g c =
    let H = g.S.Shelf.held in
    let held = H c.read_file.new.shelf in
    let main = c.args.algorithm.now.tree in
    let text = c.in_ok-text.text.items in
    let e = c.in_err-problem.field-0.0 in
    let p = err_from_is_err_and c.from_residual-in_err-problem.result c.from_residual-in_err-problem.ensures.1 in
    let h = subst (λ (t : Bytes). MakesProblem main t (Err e)) c.deref.ensures.value c.in_err-problem.ensures in
    rw (p.1, p.2) (
    read_on Architecture c.args.name.now (H c.args.shelf.now) held text
    (λ (text : Bytes). architecture_in text main (λ (d : Described) (t : Table). give (of_text (lint_of_both c.args.algorithm.now.defs text d)))) _ c.in_ok-text.ensures.read
    (stopped _ held held (status_of_architecture e)
    (refused_so main text _ held e h)))

pub returns-in_err-print_both-clause-carries : goal.returns-in_err-print_both-clause-carries
returns-in_err-print_both-clause-carries g c =
    let H = g.S.Shelf.held in
    let held = H c.read_file.new.shelf in
    let main = c.args.algorithm.now.tree in
    let p = err_from_is_err_and c.from_residual-in_err-print_both.result c.from_residual-in_err-print_both.ensures.1 in
    rw (p.1, p.2) (
    read_on Architecture c.args.name.now (H c.args.shelf.now) held c.in_ok-text.text.items
    (λ (text : Bytes). architecture_in text main (λ (d : Described) (t : Table). give (of_text (lint_of_both c.args.algorithm.now.defs text d)))) _ c.in_ok-text.ensures.read
    (wanted _ held _ refl))

pub returns-clause-carries : goal.returns-clause-carries
returns-clause-carries g c =
    let H = g.S.Shelf.held in
    let held = H c.read_file.new.shelf in
    let main = c.args.algorithm.now.tree in
    let defs = c.args.algorithm.now.defs in
    let text = c.in_ok-text.text.items in
    let given = c.in_ok-problem.problem in
    let is = subst (λ (t : Bytes). IsProblem main t given) c.deref.ensures.value c.in_ok-problem.ensures in
    let same = c.in_ok-print_both.ensures ∙ ap (λ (t : Bytes). lint_of_both defs t (described_by given.text)) c.deref-2.ensures.value in
    read_on Architecture c.args.name.now (H c.args.shelf.now) held text
    (λ (text : Bytes). architecture_in text main (λ (d : Described) (t : Table). give (of_text (lint_of_both defs text d)))) _ c.in_ok-text.ensures.read
    (compiled_in main text held given (λ (d : Described) (t : Table). give (of_text (lint_of_both defs text d))) _ is
    (Ok (of_text (lint_of_both defs text (described_by given.text))), gave held _ _ refl, (no_schedule, tt, same)))
