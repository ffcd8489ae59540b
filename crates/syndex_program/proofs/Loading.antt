-- Carrying out the plan of texts that are executed.
use Rattle.std.proofs.Common.{Result, Ok, Err}
use Rattle.compiler.specs.Executions.{Execution}
use Rattle.syn_base.specs.Bytes.{Bytes}
use Rattle.csv.specs.Reading.{default_config, records, strip_bom}
use Rattle.syn_base.specs.Rows.{Reactions}
use Rattle.algo_text.specs.Refusals.{AlgoError}
use Rattle.algo_text.specs.declared.definition.Defs.{Defs}
use Rattle.algo_tree.specs.Tree.{Vertex}
use Rattle.self_timed.specs.Text.{Described, described_by}
use Rattle.self_timed.specs.Refusals.{ArchiError}
use Rattle.self_timed.specs.Table.{Table}
use Rattle.top_plans.specs.Shelf.{Held}
use Rattle.top_plans.specs.SensorTable.{rows_of}
use Rattle.top_plans.specs.declared.SensorError.{SensorError}
use Rattle.top_plans.specs.Ending.{Ending}
use Rattle.top_plans.specs.Plan.{Plan}
use Rattle.top_plans.specs.Run.{Makes}
use Rattle.top_plans.specs.Status.{Refusal, ending_of, status_of_algorithm, status_of_architecture, status_of_sensors}
use Rattle.top_plans.specs.Plans.{architecture_in, table_in}
use Rattle.syndex_program.specs.Executes.{rest_plan, texts_plan}
use Rattle.compiler.specs.Compiles.{IsAlgorithm, IsProblem, MakesAlgorithm, MakesProblem}
use Rattle.compiler.specs.Tables.{MakesTable}
use Rattle.compiler.specs.declared.stages.Algorithm.{Algorithm}
use Rattle.compiler.specs.declared.stages.Problem.{Problem}
use Rattle.top_plans.proofs.Steps as steps
use Rattle.top_plans.proofs.Architectures as architectures

module _ (held : Held) (a h s : Bytes) where
  abbrev behind_table : Vertex → Described → Table → Plan Refusal Execution
  behind_table main d t = table_in main s (λ rows. rest_plan main d.archi t rows)

  abbrev behind_algorithm : Defs → Vertex → Plan Refusal Execution
  behind_algorithm defs main = architecture_in h main (behind_table main)

  pub algorithm_refused : (e : AlgoError) → MakesAlgorithm a (Err e) → Makes held held (texts_plan a h s) (Err (ending_of (status_of_algorithm e)))
  algorithm_refused e m = steps.refused_so a behind_algorithm held e m

  module _ (algorithm : Algorithm) (is : IsAlgorithm a algorithm) where
    pub problem_refused : (e : ArchiError) → MakesProblem algorithm.tree h (Err e) → Makes held held (texts_plan a h s) (Err (ending_of (status_of_architecture e)))
    problem_refused e m =
        steps.resolved_so a behind_algorithm held held algorithm (Err (ending_of (status_of_architecture e))) is
        (architectures.refused_so algorithm.tree h (behind_table algorithm.tree) held e m)

    module _ (problem : Problem) (says : IsProblem algorithm.tree h problem) where
      -- both texts were accepted, and then the plan went on with the table
      both_so : (made : Result Execution (Ending Refusal))
          → Makes held held (behind_table algorithm.tree (described_by problem.text) problem.durations) made → Makes held held (texts_plan a h s) made
      both_so made m =
          steps.resolved_so a behind_algorithm held held algorithm made is
          (architectures.described_so algorithm.tree h (behind_table algorithm.tree) held held problem made says m)

      pub table_refused : (e : SensorError) → MakesTable algorithm.tree s (Err e) → Makes held held (texts_plan a h s) (Err (ending_of (status_of_sensors e)))
      table_refused e m =
          both_so (Err (ending_of (status_of_sensors e)))
          (steps.table_refused held (rows_of algorithm.tree (records default_config (strip_bom s)))
          (λ (rows : Reactions). rest_plan algorithm.tree problem.text.archi problem.durations rows) e m)

      pub rows_so : (rows : Reactions) (made : Result Execution (Ending Refusal)) → MakesTable algorithm.tree s (Ok rows)
          → Makes held held (rest_plan algorithm.tree problem.text.archi problem.durations rows) made → Makes held held (texts_plan a h s) made
      rows_so rows made m go =
          both_so made
          (steps.rows_so algorithm.tree s held held rows (λ (rs : Reactions). rest_plan algorithm.tree problem.text.archi problem.durations rs) made m.0 go)
