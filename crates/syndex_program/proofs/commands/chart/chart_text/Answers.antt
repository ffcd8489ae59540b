use Rattle.std.proofs.Common.{◌≡◌, ◌∙◌, ap, subst, sym}
use Rattle.std.specs.Prelude.{Ok, Err}
use Rattle.std.proofs.lemmas.Result.{err_from_is_err_and}
use Rattle.syn_base.specs.Bytes.{Bytes}
use Rattle.algo_text.specs.declared.definition.Defs.{Defs}
use Rattle.algo_tree.specs.Tree.{Vertex}
use Rattle.self_timed.specs.Text.{Described, described_by}
use Rattle.self_timed.specs.Table.{Table, durations_of}
use Rattle.self_timed.specs.Graph.{Graph}
use Rattle.top_plans.specs.FlatOf.{flat_of}
use Rattle.top_plans.specs.Plan.{give}
use Rattle.top_plans.proofs.Makes.{gave, memory}
use Rattle.top_plans.specs.Status.{ending_of}
use Rattle.top_plans.specs.Given.{written}
use Rattle.top_plans.specs.Plans.{architecture_plan, chart_of}
use Rattle.top_plans.proofs.Architectures as architecture
use Rattle.top_plans.proofs.Steps.{algorithm_stops, went_on}
use Rattle.syndex_program.proofs.commands.chart.chart_text.Goals as goal

pub print_schedule-requires : goal.print_schedule-requires
print_schedule-requires g c =
    let given = c.in_ok-problem.problem in
    let is = c.in_ok-problem.ensures.reads.2 in
    subst (λ (f : Graph). durations_of f (described_by given.text) ≡ Ok given.durations) (sym is.flattens) is.lasts

pub returns-in_err-algorithm-clause-makes : goal.returns-in_err-algorithm-clause-makes
returns-in_err-algorithm-clause-makes g c =
    let H = g.S.Shelf.held in
    let p = err_from_is_err_and c.from_residual.result c.from_residual.ensures.1 in
    rw (p.1, p.2) (algorithm_stops c.args.algorithm.now (H c.args.shelf.now) (H c.read_algorithm.new.shelf) c.in_err-algorithm.field-0.0 _ c.in_err-algorithm.ensures.reads)

pub returns-in_err-problem-clause-makes : goal.returns-in_err-problem-clause-makes
returns-in_err-problem-clause-makes g c =
    let H = g.S.Shelf.held in
    let p = err_from_is_err_and c.from_residual-in_err-problem.result c.from_residual-in_err-problem.ensures.1 in
    rw (p.1, p.2) (
    went_on c.args.algorithm.now (H c.args.shelf.now) (H c.read_algorithm.new.shelf) (H c.read_architecture.new.shelf) c.in_ok-algorithm.algorithm
    (λ (defs : Defs) (main : Vertex). architecture_plan c.args.architecture.now main
    (λ (d : Described) (t : Table). give (written (chart_of (flat_of main) d t)))) (Err (ending_of c.in_err-problem.field-0.0))
    c.in_ok-algorithm.ensures.reads
    (architecture.architecture_stops c.in_ok-algorithm.algorithm.tree c.args.architecture.now (H c.read_algorithm.new.shelf)
    (H c.read_architecture.new.shelf) c.in_err-problem.field-0.0 _ c.in_err-problem.ensures.reads)
    )

pub returns-in_err-print_schedule-clause-makes : goal.returns-in_err-print_schedule-clause-makes
returns-in_err-print_schedule-clause-makes g c =
    let H = g.S.Shelf.held in
    let p = err_from_is_err_and c.from_residual-in_err-print_schedule.result c.from_residual-in_err-print_schedule.ensures.1 in
    rw (p.1, p.2) (
    went_on c.args.algorithm.now (H c.args.shelf.now) (H c.read_algorithm.new.shelf) (H c.read_architecture.new.shelf) c.in_ok-algorithm.algorithm
    (λ (defs : Defs) (main : Vertex). architecture_plan c.args.architecture.now main (λ (d : Described) (t : Table). give (written (chart_of (flat_of main) d t)))) _ c.in_ok-algorithm.ensures.reads
    (architecture.went_on c.in_ok-algorithm.algorithm.tree c.args.architecture.now (H c.read_algorithm.new.shelf)
    (H c.read_architecture.new.shelf) (H c.read_architecture.new.shelf) c.in_ok-problem.problem
    (λ (d : Described) (t : Table). give (written (chart_of (flat_of c.in_ok-algorithm.algorithm.tree) d t))) _ c.in_ok-problem.ensures.reads
    (memory (H c.read_architecture.new.shelf) _))
    )

pub returns-clause-makes : goal.returns-clause-makes
returns-clause-makes g c =
    let H = g.S.Shelf.held in
    let algorithm = c.in_ok-algorithm.algorithm in
    let given = c.in_ok-problem.problem in
    let is = c.in_ok-problem.ensures.reads.2 in
    let d = described_by given.text in
    went_on c.args.algorithm.now (H c.args.shelf.now) (H c.read_algorithm.new.shelf) (H c.read_architecture.new.shelf) algorithm
    (λ (defs : Defs) (main : Vertex). architecture_plan c.args.architecture.now main (λ (d : Described) (t : Table). give (written (chart_of (flat_of main) d t)))) _ c.in_ok-algorithm.ensures.reads
    (architecture.went_on algorithm.tree c.args.architecture.now (H c.read_algorithm.new.shelf) (H c.read_architecture.new.shelf) (H c.read_architecture.new.shelf) given
    (λ (d : Described) (t : Table). give (written (chart_of (flat_of algorithm.tree) d t))) _ c.in_ok-problem.ensures.reads
    (gave (H c.read_architecture.new.shelf) _ _ (ap (λ (x : Bytes). Ok (written x)) (c.in_ok-print_schedule.ensures ∙ ap (λ (f : Graph). chart_of f d given.durations) is.flattens))))
