use Rattle.std.proofs.lemmas.Result.{err_from_is_err_and}
use Rattle.algo_laws.specs.declared.Defs.{Defs}
use Rattle.algo_laws.specs.Tree.{Vertex}
use Rattle.top_plans.specs.Status.{ending_of}
use Rattle.top_plans.specs.Plans.{table_plan}
use Rattle.lab_plans.specs.Plans.{plot_plan, plotted}
use Rattle.lab_program.proofs.Carried.{rows_on, stopped, went_on}
use Rattle.top_plans.proofs.Steps.{algorithm_stops, table_stops}
use Rattle.lab_program.proofs.commands.plot.plot_text.Goals as goal

pub plot_over-requires : goal.plot_over-requires
plot_over-requires g c = c.in_ok-rows.ensures.reads.2.1

pub returns-in_err-algorithm-clause-carries : goal.returns-in_err-algorithm-clause-carries
returns-in_err-algorithm-clause-carries g c =
    let H = g.S.Shelf.held in
    let p = err_from_is_err_and c.from_residual.result c.from_residual.ensures.1 in
    let status = c.in_err-algorithm.field-0.0 in
    rw (p.1, p.2) (stopped (plot_plan c.args.algorithm.now c.args.sensors.now) (H c.args.shelf.now) (H c.read_algorithm.new.shelf) status
    (algorithm_stops c.args.algorithm.now (H c.args.shelf.now) (H c.read_algorithm.new.shelf) status _ c.in_err-algorithm.ensures.reads))

pub returns-in_err-rows-clause-carries : goal.returns-in_err-rows-clause-carries
returns-in_err-rows-clause-carries g c =
    let H = g.S.Shelf.held in
    let p = err_from_is_err_and c.from_residual-in_err-rows.result c.from_residual-in_err-rows.ensures.1 in
    let status = c.in_err-rows.field-0.0 in
    let main = c.in_ok-algorithm.algorithm.tree in
    rw (p.1, p.2) (
    went_on c.args.algorithm.now (H c.args.shelf.now) (H c.read_algorithm.new.shelf) (H c.read_table.new.shelf) c.in_ok-algorithm.algorithm
    (λ (defs : Defs) (main : Vertex). table_plan main c.args.sensors.now (plotted main)) _ c.in_ok-algorithm.ensures.reads
    (stopped _ (H c.read_algorithm.new.shelf) (H c.read_table.new.shelf) status
    (table_stops main c.args.sensors.now (H c.read_algorithm.new.shelf) (H c.read_table.new.shelf) status (plotted main) c.in_err-rows.ensures.reads))
    )

pub returns-clause-carries : goal.returns-clause-carries
returns-clause-carries g c =
    let H = g.S.Shelf.held in
    let held = H c.read_table.new.shelf in
    let tree = c.in_ok-algorithm.algorithm.tree in
    went_on c.args.algorithm.now (H c.args.shelf.now) (H c.read_algorithm.new.shelf) held c.in_ok-algorithm.algorithm
    (λ (defs : Defs) (main : Vertex). table_plan main c.args.sensors.now (plotted main)) _ c.in_ok-algorithm.ensures.reads
    (rows_on tree c.args.sensors.now (H c.read_algorithm.new.shelf) held held c.in_ok-rows.rows (plotted tree) _ c.in_ok-rows.ensures.reads (c.plot_over.ensures held))
