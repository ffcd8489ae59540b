-- Programs that are executed: what is asked of their parts, and what reading them answers.
use Rattle.std.specs.Prelude.{◌≡◌, ◌⊎◌, length, None, Result, Ok, Err}
use Rattle.compiler.specs.Executions.{Execution as Executed, one_job}
use Rattle.syn_base.specs.Bytes.{Bytes}
use Rattle.syn_base.specs.Rows.{Reactions}
use Rattle.algo_tree.specs.Tree.{Vertex}
use Rattle.word_rule.specs.Job.{total_steps}
use Rattle.word_rule.specs.IsJob.{FitTogether, limit_of}
use Rattle.word_rule.specs.Driven.{Driven, driven_by}
use Rattle.self_timed.specs.Archi.{Architecture as Archi}
use Rattle.self_timed.specs.Table.{Table}
use Rattle.top_plans.specs.Sink.{Sunk}
use Rattle.top_plans.specs.declared.File.TheVariants.{Architecture, Code}
use Rattle.top_plans.specs.FlatOf.{flat_of}
use Rattle.top_plans.specs.Flat.{HasFlat}
use Rattle.top_plans.specs.Ending.{Ending, no_memory}
use Rattle.top_plans.specs.Run.{Ends}
use Rattle.top_plans.specs.Status.{Refusal, ending_of}
use Rattle.top_plans.specs.declared.Status.{Status}
use Rattle.top_plans.specs.Given.{Given, performed}
use Rattle.top_plans.specs.Plan.{Plan}
use Rattle.top_plans.specs.Plans.{
  algorithm_in,
  algorithm_plan,
  architecture_in,
  architecture_plan,
  code_in,
  described_in,
  read_file,
  table_in,
  table_plan,
  program_plan,
  execution,
  execution_plan,
}
use Rattle.syndex_program.specs.declared.execution.Execution.{Execution}

-- what is executed
abbrev pub executed : Execution → Executed
executed x = execution x.tree x.text.archi x.program x.rows

-- The flat graph is the algorithm's, which is valid and means the same; the parts make a job over all rows, which
-- meets no limit and has this many micro-steps.
pub record IsExecuted (x : Execution) : Type 0 where
  pub flat : x.flat ≡ flat_of x.tree
  pub has : HasFlat x.tree
  pub fits : FitTogether x.text.archi (one_job (executed x))
  pub limit : limit_of (one_job (executed x)) ≡ None
  pub steps : x.steps ≡ total_steps x.program (length x.rows.reactions)

-- The plan of what is executed: of a program that is built, over a table's rows, over files, and over texts; and of one
-- that stands in a file of macro-code.
abbrev pub rest_plan : Vertex → Archi → Table → Reactions → Plan Refusal Executed
rest_plan main a t rows = program_plan (flat_of main) a t (λ p. execution_plan (execution main a p rows) (λ e. e))

abbrev pub files_plan : (a h s : Bytes) → Plan Refusal Executed
files_plan a h s =
    algorithm_plan a (λ defs main.
    architecture_plan h main (λ d t.
    table_plan main s (λ rows. rest_plan main d.archi t rows)))

abbrev pub texts_plan : (a h s : Bytes) → Plan Refusal Executed
texts_plan a h s =
    algorithm_in a (λ defs main.
    architecture_in h main (λ d t.
    table_in main s (λ rows. rest_plan main d.archi t rows)))

abbrev pub foreign_plan : (a h c s : Bytes) → Plan Refusal Executed
foreign_plan a h c s =
    algorithm_plan a (λ defs main.
    read_file Architecture h (λ lines. described_in lines (λ d.
    read_file Code c (λ text. code_in text (flat_of main) d.archi (λ p.
    table_plan main s (λ rows.
    execution_plan (execution main d.archi p rows) (λ e. e)))))))

-- an execution, or the ending that a status stands for
abbrev pub executed_in : Result Execution Status → Result Executed (Ending Refusal)
executed_in (Ok x) = Ok (executed x)
executed_in (Err status) = Err (ending_of status)

-- what is made of an execution, or the ending that a status stands for
abbrev pub made_of : (Executed → Given) → Result Execution Status → Result Given (Ending Refusal)
made_of what (Ok x) = Ok (what (executed x))
made_of what (Err status) = Err (ending_of status)

-- what was made is performed; or memory ran out before anything was written and any job was run
abbrev pub EndsOrWants : Result Given (Ending Refusal) → Sunk → Sunk → Driven → Driven → Ending Refusal → Type 0
EndsOrWants made sunk sunk' d d' ending =
    Ends driven_by performed made sunk sunk' d d' ending ⊎
    Ends driven_by performed (Err no_memory) sunk sunk' d d' ending
