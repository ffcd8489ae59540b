use Rattle.std.specs.Prelude.{Err}
use Rattle.std.proofs.lemmas.Result.{err_from_is_err_and}
use Rattle.algo_text.specs.declared.definition.Defs.{Defs}
use Rattle.algo_tree.specs.Tree.{Vertex}
use Rattle.top_plans.specs.Status.{ending_of}
use Rattle.top_plans.specs.Plans.{rows_plan, table_plan}
use Rattle.top_plans.specs.Reads.{text_in}
use Rattle.top_plans.proofs.Steps.{algorithm_stops, rows_went_on, table_stops, went_on}
use Rattle.syndex_program.proofs.commands.sim.sim_text.Goals as goal

pub text_over-requires : goal.text_over-requires
text_over-requires g c = c.in_ok-rows.ensures.reads.2.1

pub returns-in_err-algorithm-clause-makes : goal.returns-in_err-algorithm-clause-makes
returns-in_err-algorithm-clause-makes g c =
    let H = g.S.Shelf.held in
    let p = err_from_is_err_and c.from_residual.result c.from_residual.ensures.1 in
    rw (p.1, p.2) (algorithm_stops c.args.algorithm.now (H c.args.shelf.now) (H c.read_algorithm.new.shelf) c.in_err-algorithm.field-0.0 _ c.in_err-algorithm.ensures.reads)

pub returns-in_err-rows-clause-makes : goal.returns-in_err-rows-clause-makes
returns-in_err-rows-clause-makes g c =
    let H = g.S.Shelf.held in
    let p = err_from_is_err_and c.from_residual-in_err-rows.result c.from_residual-in_err-rows.ensures.1 in
    rw (p.1, p.2) (
    went_on c.args.algorithm.now (H c.args.shelf.now) (H c.read_algorithm.new.shelf) (H c.read_table.new.shelf) c.in_ok-algorithm.algorithm
    (λ (defs : Defs) (main : Vertex). table_plan main c.args.sensors.now (rows_plan main)) (Err (ending_of c.in_err-rows.field-0.0)) c.in_ok-algorithm.ensures.reads
    (table_stops c.in_ok-algorithm.algorithm.tree c.args.sensors.now (H c.read_algorithm.new.shelf)
    (H c.read_table.new.shelf) c.in_err-rows.field-0.0 (rows_plan c.in_ok-algorithm.algorithm.tree) c.in_err-rows.ensures.reads)
    )

pub returns-clause-makes : goal.returns-clause-makes
returns-clause-makes g c =
    let H = g.S.Shelf.held in
    let tree = c.in_ok-algorithm.algorithm.tree in
    let made = text_in c.text_over.result in
    went_on c.args.algorithm.now (H c.args.shelf.now) (H c.read_algorithm.new.shelf) (H c.read_table.new.shelf) c.in_ok-algorithm.algorithm
    (λ (defs : Defs) (main : Vertex). table_plan main c.args.sensors.now (rows_plan main)) made c.in_ok-algorithm.ensures.reads
    (rows_went_on tree c.args.sensors.now (H c.read_algorithm.new.shelf) (H c.read_table.new.shelf) (H c.read_table.new.shelf) c.in_ok-rows.rows (rows_plan tree) made c.in_ok-rows.ensures.reads
    (c.text_over.ensures (H c.read_table.new.shelf)))
