use Rattle.std.proofs.Common.{refl}
use Rattle.std.specs.Prelude.{Ok}
use Rattle.std.proofs.lemmas.Result.{err_from_is_err_and}
use Rattle.algo_laws.specs.declared.Defs.{Defs}
use Rattle.algo_laws.specs.Tree.{Vertex}
use Rattle.definition_drawing.specs.Drawing.{drawing}
use Rattle.top_plans.specs.Plan.{give}
use Rattle.top_plans.proofs.Makes.{gave}
use Rattle.top_plans.specs.Status.{ending_of}
use Rattle.lab_plans.specs.Asked.{of_text}
use Rattle.lab_plans.specs.Plans.{graph_plan}
use Rattle.lab_program.proofs.Carried.{no_schedule, stopped, wanted, went_on}
use Rattle.top_plans.proofs.Steps.{algorithm_stops}
use Rattle.lab_program.proofs.commands.graph.graph_text.Goals as goal

pub returns-in_err-algorithm-clause-carries : goal.returns-in_err-algorithm-clause-carries
returns-in_err-algorithm-clause-carries g c =
    let H = g.S.Shelf.held in
    let p = err_from_is_err_and c.from_residual.result c.from_residual.ensures.1 in
    let status = c.in_err-algorithm.field-0.0 in
    rw (p.1, p.2) (stopped (graph_plan c.args.algorithm.now) (H c.args.shelf.now) (H c.read_algorithm.new.shelf) status
    (algorithm_stops c.args.algorithm.now (H c.args.shelf.now) (H c.read_algorithm.new.shelf) status _ c.in_err-algorithm.ensures.reads))

pub returns-in_err-print_drawing-clause-carries : goal.returns-in_err-print_drawing-clause-carries
returns-in_err-print_drawing-clause-carries g c =
    let H = g.S.Shelf.held in
    let held = H c.read_algorithm.new.shelf in
    let p = err_from_is_err_and c.from_residual-in_err-print_drawing.result c.from_residual-in_err-print_drawing.ensures.1 in
    rw (p.1, p.2) (
    went_on c.args.algorithm.now (H c.args.shelf.now) held held c.in_ok-algorithm.algorithm (λ (defs : Defs) (main : Vertex). give (of_text (drawing defs))) _ c.in_ok-algorithm.ensures.reads
    (wanted _ held _ refl)
    )

pub returns-clause-carries : goal.returns-clause-carries
returns-clause-carries g c =
    let H = g.S.Shelf.held in
    let held = H c.read_algorithm.new.shelf in
    went_on c.args.algorithm.now (H c.args.shelf.now) held held c.in_ok-algorithm.algorithm (λ (defs : Defs) (main : Vertex). give (of_text (drawing defs))) _ c.in_ok-algorithm.ensures.reads
    (Ok (of_text (drawing c.in_ok-algorithm.algorithm.defs)), gave held _ _ refl, (no_schedule, tt, c.in_ok-print_drawing.ensures))
