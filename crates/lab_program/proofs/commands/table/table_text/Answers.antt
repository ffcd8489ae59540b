use Rattle.std.proofs.Common.{refl}
use Rattle.std.specs.Prelude.{Ok}
use Rattle.std.proofs.lemmas.Result.{err_from_is_err_and}
use Rattle.algo_laws.specs.declared.Defs.{Defs}
use Rattle.algo_laws.specs.Tree.{Vertex}
use Rattle.top_plans.specs.Template.{template_text}
use Rattle.top_plans.specs.Plan.{give}
use Rattle.top_plans.proofs.Makes.{gave}
use Rattle.top_plans.specs.Status.{ending_of}
use Rattle.lab_plans.specs.Asked.{of_text}
use Rattle.lab_plans.specs.Plans.{template_plan}
use Rattle.lab_program.proofs.Carried.{no_schedule, stopped, wanted, went_on}
use Rattle.top_plans.proofs.Steps.{algorithm_stops}
use Rattle.lab_program.proofs.commands.table.table_text.Goals as goal

pub returns-in_err-algorithm-clause-carries : goal.returns-in_err-algorithm-clause-carries
returns-in_err-algorithm-clause-carries g c =
    let H = g.S.Shelf.held in
    let p = err_from_is_err_and c.from_residual.result c.from_residual.ensures.1 in
    let status = c.in_err-algorithm.field-0.0 in
    rw (p.1, p.2) (stopped (template_plan c.args.algorithm.now) (H c.args.shelf.now) (H c.read_algorithm.new.shelf) status
    (algorithm_stops c.args.algorithm.now (H c.args.shelf.now) (H c.read_algorithm.new.shelf) status _ c.in_err-algorithm.ensures.reads))

pub returns-in_err-template_text-clause-carries : goal.returns-in_err-template_text-clause-carries
returns-in_err-template_text-clause-carries g c =
    let H = g.S.Shelf.held in
    let held = H c.read_algorithm.new.shelf in
    let p = err_from_is_err_and c.from_residual-in_err-template_text.result c.from_residual-in_err-template_text.ensures.1 in
    rw (p.1, p.2) (
    went_on c.args.algorithm.now (H c.args.shelf.now) held held c.in_ok-algorithm.algorithm (λ (defs : Defs) (main : Vertex). give (of_text (template_text main))) _ c.in_ok-algorithm.ensures.reads
    (wanted _ held _ refl)
    )

pub returns-clause-carries : goal.returns-clause-carries
returns-clause-carries g c =
    let H = g.S.Shelf.held in
    let held = H c.read_algorithm.new.shelf in
    went_on c.args.algorithm.now (H c.args.shelf.now) held held c.in_ok-algorithm.algorithm (λ (defs : Defs) (main : Vertex). give (of_text (template_text main))) _ c.in_ok-algorithm.ensures.reads
    (Ok (of_text (template_text c.in_ok-algorithm.algorithm.tree)), gave held _ _ refl, (no_schedule, tt, c.in_ok-template_text.ensures))
