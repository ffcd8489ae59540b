use Rattle.std.proofs.Common.{subst}
use Rattle.compiler.specs.Executions.{Execution}
use Rattle.std.specs.Prelude.{Ok, Err}
use Rattle.std.proofs.lemmas.Result.{err_from_is_err_and}
use Rattle.syn_base.specs.Bytes.{Bytes}
use Rattle.algo_text.specs.declared.definition.Defs.{Defs}
use Rattle.algo_tree.specs.Tree.{Vertex}
use Rattle.csv.specs.Reading.{default_config, records, strip_bom}
use Rattle.syn_base.specs.Rows.{Reactions}
use Rattle.self_timed.specs.Text.{Described}
use Rattle.self_timed.specs.declared.Program.{Program}
use Rattle.self_timed.specs.Graph.{Graph}
use Rattle.top_plans.specs.declared.File.TheVariants.{Architecture, Code}
use Rattle.top_plans.specs.FlatOf.{flat_of}
use Rattle.top_plans.proofs.Makes.{memory}
use Rattle.top_plans.specs.Plan.{Plan}
use Rattle.top_plans.specs.Status.{Refusal}
use Rattle.top_plans.specs.Plans.{code_in, described_in, execution, execution_plan, read_file, table_plan}
use Rattle.syndex_program.specs.Executes.{executed_in}
use Rattle.syndex_program.specs.Foreign.{ReadsProgram}
use Rattle.top_plans.proofs.Architectures.{description_stops, text_went_on}
use Rattle.syndex_program.proofs.Coded.{program_stops, program_went_on}
use Rattle.top_plans.proofs.Steps.{algorithm_stops, table_stops, went_on, rows_went_on}
use Rattle.compiler.proofs.Tables.{few_rows}
use Rattle.syndex_program.proofs.commands.exec.read_foreign.Goals as goal

-- the plan, from each of its files on
module _ (h c s : Bytes) where
  abbrev behind_program : Vertex → Described → Program → Plan Refusal Execution
  behind_program main d p = table_plan main s (λ (rows : Reactions). execution_plan (execution main d.archi p rows) (λ e. e))

  abbrev behind_text : Vertex → Described → Plan Refusal Execution
  behind_text main d = read_file Code c (λ (text : Bytes). code_in text (flat_of main) d.archi (behind_program main d))

  abbrev behind_algorithm : Defs → Vertex → Plan Refusal Execution
  behind_algorithm defs main = read_file Architecture h (λ (lines : Bytes). described_in lines (behind_text main))

pub execution_of-requires-clause-has : goal.execution_of-requires-clause-has
execution_of-requires-clause-has g c =
    let read = c.in_ok-algorithm.ensures.reads in
    c.accepted_have_flat.ensures read.0 c.in_ok-algorithm.algorithm.defs c.in_ok-algorithm.algorithm.tree read.2.says read.2.resolves

pub execution_of-requires-clause-formed : goal.execution_of-requires-clause-formed
execution_of-requires-clause-formed g c = c.in_ok-program.ensures.reads.2.formed

pub execution_of-requires-clause-lens : goal.execution_of-requires-clause-lens
execution_of-requires-clause-lens g c = c.in_ok-rows.ensures.reads.2.1

pub execution_of-requires-clause-few : goal.execution_of-requires-clause-few
execution_of-requires-clause-few g c =
    let read = c.in_ok-rows.ensures.reads in
    few_rows c.in_ok-algorithm.algorithm.tree (records default_config (strip_bom read.0)) c.in_ok-rows.rows read.2.0

pub returns-in_err-algorithm-clause-makes : goal.returns-in_err-algorithm-clause-makes
returns-in_err-algorithm-clause-makes g c =
    let p = err_from_is_err_and c.from_residual.result c.from_residual.ensures.1 in
    rw (p.1, p.2) (algorithm_stops c.args.algorithm.now (g.S.Shelf.held c.args.shelf.now) (g.S.Shelf.held c.read_algorithm.new.shelf) c.in_err-algorithm.field-0.0 _ c.in_err-algorithm.ensures.reads)

pub returns-in_err-text-clause-makes : goal.returns-in_err-text-clause-makes
returns-in_err-text-clause-makes g c =
    let H = g.S.Shelf.held in
    let p = err_from_is_err_and c.from_residual-in_err-text.result c.from_residual-in_err-text.ensures.1 in
    rw (p.1, p.2) (
    went_on c.args.algorithm.now (H c.args.shelf.now) (H c.read_algorithm.new.shelf) (H c.read_description.new.shelf) c.in_ok-algorithm.algorithm
    (behind_algorithm c.args.architecture.now c.args.code.now c.args.sensors.now) _ c.in_ok-algorithm.ensures.reads
    (description_stops c.args.architecture.now (H c.read_algorithm.new.shelf) (H c.read_description.new.shelf) c.in_err-text.field-0.0 _ c.in_err-text.ensures.reads)
    )

pub returns-in_err-flat-clause-makes : goal.returns-in_err-flat-clause-makes
returns-in_err-flat-clause-makes g c =
    let H = g.S.Shelf.held in
    let p = err_from_is_err_and c.from_residual-in_err-flat.result c.from_residual-in_err-flat.ensures.1 in
    let algorithm = c.in_ok-algorithm.algorithm in
    rw (p.1, p.2) (
    went_on c.args.algorithm.now (H c.args.shelf.now) (H c.read_algorithm.new.shelf) (H c.read_description.new.shelf) algorithm
    (behind_algorithm c.args.architecture.now c.args.code.now c.args.sensors.now) _ c.in_ok-algorithm.ensures.reads
    (text_went_on c.args.architecture.now (H c.read_algorithm.new.shelf) (H c.read_description.new.shelf) (H c.read_description.new.shelf) c.in_ok-text.text
    (behind_text c.args.architecture.now c.args.code.now c.args.sensors.now algorithm.tree) _ c.in_ok-text.ensures.reads (memory (H c.read_description.new.shelf) _))
    )

pub returns-in_err-program-clause-makes : goal.returns-in_err-program-clause-makes
returns-in_err-program-clause-makes g c =
    let H = g.S.Shelf.held in
    let algorithm = c.in_ok-algorithm.algorithm in
    let text = c.in_ok-text.text in
    let p = err_from_is_err_and c.from_residual-in_err-program.result c.from_residual-in_err-program.ensures.1 in
    let reads = subst (λ (f : Graph). ReadsProgram f text.archi c.args.code.now (H c.read_description.new.shelf)
    (H c.read_program.new.shelf) (Err c.in_err-program.field-0.0)) c.in_ok-flat.ensures c.in_err-program.ensures.reads in
    rw (p.1, p.2) (
    went_on c.args.algorithm.now (H c.args.shelf.now) (H c.read_algorithm.new.shelf) (H c.read_program.new.shelf) algorithm
    (behind_algorithm c.args.architecture.now c.args.code.now c.args.sensors.now) _ c.in_ok-algorithm.ensures.reads
    (text_went_on c.args.architecture.now (H c.read_algorithm.new.shelf) (H c.read_description.new.shelf) (H c.read_program.new.shelf) text
    (behind_text c.args.architecture.now c.args.code.now c.args.sensors.now algorithm.tree) _ c.in_ok-text.ensures.reads
    (program_stops (flat_of algorithm.tree) text.archi c.args.code.now _ (H c.read_description.new.shelf) (H c.read_program.new.shelf) c.in_err-program.field-0.0 reads))
    )

pub returns-in_err-rows-clause-makes : goal.returns-in_err-rows-clause-makes
returns-in_err-rows-clause-makes g c =
    let H = g.S.Shelf.held in
    let algorithm = c.in_ok-algorithm.algorithm in
    let text = c.in_ok-text.text in
    let program = c.in_ok-program.program in
    let p = err_from_is_err_and c.from_residual-in_err-rows.result c.from_residual-in_err-rows.ensures.1 in
    let reads = subst (λ (f : Graph). ReadsProgram f text.archi c.args.code.now (H c.read_description.new.shelf)
    (H c.read_program.new.shelf) (Ok program)) c.in_ok-flat.ensures c.in_ok-program.ensures.reads in
    rw (p.1, p.2) (
    went_on c.args.algorithm.now (H c.args.shelf.now) (H c.read_algorithm.new.shelf) (H c.read_table.new.shelf) algorithm
    (behind_algorithm c.args.architecture.now c.args.code.now c.args.sensors.now) _ c.in_ok-algorithm.ensures.reads
    (text_went_on c.args.architecture.now (H c.read_algorithm.new.shelf) (H c.read_description.new.shelf) (H c.read_table.new.shelf) text
    (behind_text c.args.architecture.now c.args.code.now c.args.sensors.now algorithm.tree) _ c.in_ok-text.ensures.reads
    (program_went_on (flat_of algorithm.tree) text.archi c.args.code.now
    (λ (q : Program). table_plan algorithm.tree c.args.sensors.now (λ (rows : Reactions). execution_plan (execution algorithm.tree text.archi q rows) (λ e. e)))
    (H c.read_description.new.shelf) (H c.read_program.new.shelf) (H c.read_table.new.shelf) program _ reads
    (table_stops algorithm.tree c.args.sensors.now (H c.read_program.new.shelf) (H c.read_table.new.shelf) c.in_err-rows.field-0.0 _ c.in_err-rows.ensures.reads)))
    )

pub returns-clause-makes : goal.returns-clause-makes
returns-clause-makes g c =
    let H = g.S.Shelf.held in
    let algorithm = c.in_ok-algorithm.algorithm in
    let text = c.in_ok-text.text in
    let program = c.in_ok-program.program in
    let made = executed_in c.execution_of.result in
    let held = H c.read_table.new.shelf in
    let reads = subst (λ (f : Graph). ReadsProgram f text.archi c.args.code.now (H c.read_description.new.shelf)
    (H c.read_program.new.shelf) (Ok program)) c.in_ok-flat.ensures c.in_ok-program.ensures.reads in
    went_on c.args.algorithm.now (H c.args.shelf.now) (H c.read_algorithm.new.shelf) held algorithm
    (behind_algorithm c.args.architecture.now c.args.code.now c.args.sensors.now) made c.in_ok-algorithm.ensures.reads
    (text_went_on c.args.architecture.now (H c.read_algorithm.new.shelf) (H c.read_description.new.shelf) held text
    (behind_text c.args.architecture.now c.args.code.now c.args.sensors.now algorithm.tree) made c.in_ok-text.ensures.reads
    (program_went_on (flat_of algorithm.tree) text.archi c.args.code.now
    (λ (q : Program). table_plan algorithm.tree c.args.sensors.now (λ (rows : Reactions). execution_plan (execution algorithm.tree text.archi q rows) (λ e. e)))
    (H c.read_description.new.shelf) (H c.read_program.new.shelf) held program made reads
    (rows_went_on algorithm.tree c.args.sensors.now (H c.read_program.new.shelf) held held c.in_ok-rows.rows
    (λ (rows : Reactions). execution_plan (execution algorithm.tree text.archi program rows) (λ e. e)) made c.in_ok-rows.ensures.reads (c.execution_of.ensures.makes held))))
