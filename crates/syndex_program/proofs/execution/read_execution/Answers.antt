use Rattle.std.proofs.Common.{◌≡◌, subst, sym}
use Rattle.compiler.specs.Executions.{Execution}
use Rattle.std.specs.Prelude.{Ok}
use Rattle.syn_base.specs.Bytes.{Bytes}
use Rattle.std.proofs.lemmas.Result.{err_from_is_err_and}
use Rattle.algo_text.specs.declared.definition.Defs.{Defs}
use Rattle.algo_tree.specs.Tree.{Vertex}
use Rattle.csv.specs.Reading.{default_config, records, strip_bom}
use Rattle.syn_base.specs.Rows.{Reactions}
use Rattle.self_timed.specs.Text.{Described, described_by}
use Rattle.self_timed.specs.Table.{Table, durations_of}
use Rattle.self_timed.specs.Graph.{Graph}
use Rattle.top_plans.specs.Plan.{Plan}
use Rattle.top_plans.specs.Plans.{architecture_plan, table_plan}
use Rattle.top_plans.specs.Status.{Refusal}
use Rattle.syndex_program.specs.Executes.{executed_in, rest_plan}
use Rattle.top_plans.proofs.Architectures as architecture
use Rattle.top_plans.proofs.Steps.{algorithm_stops, table_stops, went_on, rows_went_on}
use Rattle.compiler.proofs.Tables.{few_rows}
use Rattle.syndex_program.proofs.execution.read_execution.Goals as goal

pub compile_execution-requires-clause-flat : goal.compile_execution-requires-clause-flat
compile_execution-requires-clause-flat g c = c.in_ok-problem.ensures.reads.2.flattens

pub compile_execution-requires-clause-lasts : goal.compile_execution-requires-clause-lasts
compile_execution-requires-clause-lasts g c =
    let given = c.in_ok-problem.problem in
    let is = c.in_ok-problem.ensures.reads.2 in
    subst (λ (f : Graph). durations_of f (described_by given.text) ≡ Ok given.durations) (sym is.flattens) is.lasts

pub compile_execution-requires-clause-has : goal.compile_execution-requires-clause-has
compile_execution-requires-clause-has g c =
    let read = c.in_ok-algorithm.ensures.reads in
    c.accepted_have_flat.ensures read.0 c.in_ok-algorithm.algorithm.defs c.in_ok-algorithm.algorithm.tree read.2.says read.2.resolves

pub compile_execution-requires-clause-lens : goal.compile_execution-requires-clause-lens
compile_execution-requires-clause-lens g c = c.in_ok-rows.ensures.reads.2.1

pub compile_execution-requires-clause-few : goal.compile_execution-requires-clause-few
compile_execution-requires-clause-few g c =
    let read = c.in_ok-rows.ensures.reads in
    few_rows c.in_ok-algorithm.algorithm.tree (records default_config (strip_bom read.0)) c.in_ok-rows.rows read.2.0

-- the plan, from each of its files on
module _ (h s : Bytes) where
  abbrev behind_architecture : Vertex → Described → Table → Plan Refusal Execution
  behind_architecture main d t = table_plan main s (λ (rows : Reactions). rest_plan main d.archi t rows)

  abbrev behind_algorithm : Defs → Vertex → Plan Refusal Execution
  behind_algorithm defs main = architecture_plan h main (behind_architecture main)

pub returns-in_err-algorithm-clause-makes : goal.returns-in_err-algorithm-clause-makes
returns-in_err-algorithm-clause-makes g c =
    let H = g.S.Shelf.held in
    let p = err_from_is_err_and c.from_residual.result c.from_residual.ensures.1 in
    rw (p.1, p.2) (algorithm_stops c.args.algorithm.now (H c.args.shelf.now) (H c.read_algorithm.new.shelf) c.in_err-algorithm.field-0.0 _ c.in_err-algorithm.ensures.reads)

pub returns-in_err-problem-clause-makes : goal.returns-in_err-problem-clause-makes
returns-in_err-problem-clause-makes g c =
    let H = g.S.Shelf.held in
    let h = c.args.architecture.now in
    let s = c.args.sensors.now in
    let algorithm = c.in_ok-algorithm.algorithm in
    let p = err_from_is_err_and c.from_residual-in_err-problem.result c.from_residual-in_err-problem.ensures.1 in
    rw (p.1, p.2) (
    went_on c.args.algorithm.now (H c.args.shelf.now) (H c.read_algorithm.new.shelf) (H c.read_architecture.new.shelf) algorithm (behind_algorithm h s) _ c.in_ok-algorithm.ensures.reads
    (architecture.architecture_stops algorithm.tree h (H c.read_algorithm.new.shelf)
    (H c.read_architecture.new.shelf) c.in_err-problem.field-0.0 (behind_architecture h s algorithm.tree) c.in_err-problem.ensures.reads))

pub returns-in_err-rows-clause-makes : goal.returns-in_err-rows-clause-makes
returns-in_err-rows-clause-makes g c =
    let H = g.S.Shelf.held in
    let h = c.args.architecture.now in
    let s = c.args.sensors.now in
    let algorithm = c.in_ok-algorithm.algorithm in
    let p = err_from_is_err_and c.from_residual-in_err-rows.result c.from_residual-in_err-rows.ensures.1 in
    rw (p.1, p.2) (
    went_on c.args.algorithm.now (H c.args.shelf.now) (H c.read_algorithm.new.shelf) (H c.read_table.new.shelf) algorithm (behind_algorithm h s) _ c.in_ok-algorithm.ensures.reads
    (architecture.went_on algorithm.tree h (H c.read_algorithm.new.shelf) (H c.read_architecture.new.shelf) (H c.read_table.new.shelf) c.in_ok-problem.problem
    (behind_architecture h s algorithm.tree) _ c.in_ok-problem.ensures.reads
    (table_stops algorithm.tree s (H c.read_architecture.new.shelf) (H c.read_table.new.shelf) c.in_err-rows.field-0.0 _ c.in_err-rows.ensures.reads)))

pub returns-clause-makes : goal.returns-clause-makes
returns-clause-makes g c =
    let H = g.S.Shelf.held in
    let h = c.args.architecture.now in
    let s = c.args.sensors.now in
    let algorithm = c.in_ok-algorithm.algorithm in
    let given = c.in_ok-problem.problem in
    let held = H c.read_table.new.shelf in
    let made = executed_in c.compile_execution.result in
    went_on c.args.algorithm.now (H c.args.shelf.now) (H c.read_algorithm.new.shelf) held algorithm (behind_algorithm h s) made c.in_ok-algorithm.ensures.reads
    (architecture.went_on algorithm.tree h (H c.read_algorithm.new.shelf) (H c.read_architecture.new.shelf) held given (behind_architecture h s algorithm.tree) made c.in_ok-problem.ensures.reads
    (rows_went_on algorithm.tree s (H c.read_architecture.new.shelf) held held c.in_ok-rows.rows (λ (rows : Reactions). rest_plan algorithm.tree given.text.archi given.durations rows) made
    c.in_ok-rows.ensures.reads (c.compile_execution.ensures.makes held)))
