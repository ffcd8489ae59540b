use Rattle.std.proofs.Common.{ap}
use Rattle.std.specs.Prelude.{Ok, Err}
use Rattle.std.proofs.lemmas.Result.{err_from_is_err_and}
use Rattle.syn_base.specs.Bytes.{Bytes}
use Rattle.algo_text.specs.declared.definition.Defs.{Defs}
use Rattle.algo_tree.specs.Tree.{Vertex}
use Rattle.self_timed.specs.Text.{Described}
use Rattle.self_timed.specs.Table.{Table}
use Rattle.top_plans.specs.Plan.{give}
use Rattle.top_plans.proofs.Makes.{gave, memory}
use Rattle.top_plans.specs.Status.{ending_of}
use Rattle.top_plans.specs.Given.{written}
use Rattle.top_plans.specs.Plans.{architecture_plan, both_texts}
use Rattle.top_plans.proofs.Architectures as architecture
use Rattle.top_plans.proofs.Steps.{algorithm_stops, went_on}
use Rattle.syndex_program.proofs.commands.check.check_both.Goals as goal

pub returns-in_err-algorithm-clause-makes : goal.returns-in_err-algorithm-clause-makes
returns-in_err-algorithm-clause-makes g c =
    let H = g.S.Shelf.held in
    let p = err_from_is_err_and c.from_residual.result c.from_residual.ensures.1 in
    rw (p.1, p.2) (algorithm_stops c.args.algorithm.now (H c.args.shelf.now) (H c.read_algorithm.new.shelf) c.in_err-algorithm.field-0.0 _ c.in_err-algorithm.ensures.reads)

pub returns-in_err-problem-clause-makes : goal.returns-in_err-problem-clause-makes
returns-in_err-problem-clause-makes g c =
    let H = g.S.Shelf.held in
    let p = err_from_is_err_and c.from_residual-in_err-problem.result c.from_residual-in_err-problem.ensures.1 in
    rw (p.1, p.2) (
    went_on c.args.algorithm.now (H c.args.shelf.now) (H c.read_algorithm.new.shelf) (H c.read_architecture.new.shelf) c.in_ok-algorithm.algorithm
    (λ (defs : Defs) (main : Vertex). architecture_plan c.args.architecture.now main
    (λ (d : Described) (t : Table). give (written (both_texts defs d)))) (Err (ending_of c.in_err-problem.field-0.0))
    c.in_ok-algorithm.ensures.reads
    (architecture.architecture_stops c.in_ok-algorithm.algorithm.tree c.args.architecture.now (H c.read_algorithm.new.shelf)
    (H c.read_architecture.new.shelf) c.in_err-problem.field-0.0 _ c.in_err-problem.ensures.reads)
    )

pub returns-in_err-print_both-clause-makes : goal.returns-in_err-print_both-clause-makes
returns-in_err-print_both-clause-makes g c =
    let H = g.S.Shelf.held in
    let p = err_from_is_err_and c.from_residual-in_err-print_both.result c.from_residual-in_err-print_both.ensures.1 in
    rw (p.1, p.2) (
    went_on c.args.algorithm.now (H c.args.shelf.now) (H c.read_algorithm.new.shelf) (H c.read_architecture.new.shelf) c.in_ok-algorithm.algorithm
    (λ (defs : Defs) (main : Vertex). architecture_plan c.args.architecture.now main (λ (d : Described) (t : Table). give (written (both_texts defs d)))) _ c.in_ok-algorithm.ensures.reads
    (architecture.went_on c.in_ok-algorithm.algorithm.tree c.args.architecture.now (H c.read_algorithm.new.shelf)
    (H c.read_architecture.new.shelf) (H c.read_architecture.new.shelf) c.in_ok-problem.problem
    (λ (d : Described) (t : Table). give (written (both_texts c.in_ok-algorithm.algorithm.defs d))) _ c.in_ok-problem.ensures.reads
    (memory (H c.read_architecture.new.shelf) _))
    )

pub returns-clause-makes : goal.returns-clause-makes
returns-clause-makes g c =
    let H = g.S.Shelf.held in
    let algorithm = c.in_ok-algorithm.algorithm in
    went_on c.args.algorithm.now (H c.args.shelf.now) (H c.read_algorithm.new.shelf) (H c.read_architecture.new.shelf) algorithm
    (λ (defs : Defs) (main : Vertex). architecture_plan c.args.architecture.now main (λ (d : Described) (t : Table). give (written (both_texts defs d)))) _ c.in_ok-algorithm.ensures.reads
    (architecture.went_on algorithm.tree c.args.architecture.now (H c.read_algorithm.new.shelf) (H c.read_architecture.new.shelf) (H c.read_architecture.new.shelf) c.in_ok-problem.problem
    (λ (d : Described) (t : Table). give (written (both_texts algorithm.defs d))) _ c.in_ok-problem.ensures.reads
    (gave (H c.read_architecture.new.shelf) _ _ (ap (λ (x : Bytes). Ok (written x)) c.in_ok-print_both.ensures)))
