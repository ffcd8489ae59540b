-- What executions write, run and are.
use Rattle.std.specs.Prelude.{
  ◌≡◌,
  ℕ,
  ◌+◌,
  ◌≤◌,
  ◌<◌,
  cond,
  nat_lt,
  List,
  ◌++◌,
  length,
  Option,
  Some,
  None,
  Ok,
  slice_get,
  slice_index_or,
  codes,
}
use Rattle.compiler.specs.Executions.{Execution, one_job, acts_of, output_of}
use Rattle.csv.specs.Reading.{default_config, records, strip_bom}
use Rattle.syn_base.specs.Bytes.{Bytes}
use Rattle.syn_base.specs.Rows.{Reactions}
use Rattle.multi_period.specs.Meaning.{act_row_at}
use Rattle.command_status.specs.SensorTable.{rows_of}
use Rattle.command_status.specs.Plan.{outcome}
use Rattle.command_status.specs.Stage.{text_of, jobs_of}
use Rattle.accepted_laws.specs.FlatOf.{flat_of}
use Rattle.accepted_laws.specs.Told.{Algorithm, DoesAsTold, taken, lines_taken}
use Rattle.word_rule.specs.Core.{run, count, IsDone}
use Rattle.word_rule.specs.Told.{done_in}
use Rattle.word_rule.specs.IsJob.{limit_of}
use Rattle.word_rule.specs.Laws.{HasLaws}
use Rattle.word_rule.specs.Agrees.{row_at}
use Rattle.word_rule.specs.Windows.{IsWindow}
use Rattle.self_timed.specs.declared.Vertex as flat
use Rattle.self_timed.specs.declared.Kind.TheVariants.{Actuator}
use Rattle.self_timed.specs.Graph.{lens_of}
use Rattle.self_timed.specs.Text.{Described}
use Rattle.run_laws.specs.Windows.{window_jobs}
use Rattle.top_plans.specs.Given.{Given, written, printed, executed, summed, stages}
use Rattle.command_words.specs.Command.{
  Command,
  plain,
  job,
  check,
  algorithm_text,
  schedule_text,
  dates,
  sim,
  run as running,
  exec,
  load,
}
use Rattle.command_words.specs.declared.table.ScheduleText.{ScheduleText}
use Rattle.command_words.specs.declared.table.ScheduleText.TheVariants.{Chart, Code}
use Rattle.top_plans.specs.Loads.{load_algorithm, load_table}
use Rattle.top_plans.specs.Plans.{plan_for, summary_with, sum_of}
use Rattle.top_plans.specs.Texts.{ChecksAlgorithm, ChecksBoth, TellsTrue, ChartsTrue, CodesTrue, DatesTrue, IsCode}
use Rattle.syn_base.specs.Vectors.{vector_at, zeros}

-- the text that is written in windows is the whole output
abbrev pub WindowsWriteTheOutput : Type 0
WindowsWriteTheOutput =
    (text : Bytes) (e : Execution) →
    (text_of (stages (printed text e)) ≡ text ++ output_of e.main e.rows.reactions) ×
    (text_of (stages (executed e)) ≡ output_of e.main e.rows.reactions) ×
    (text_of (stages (summed e text)) ≡ text)

-- and the jobs that are run are the windows of the one job
abbrev pub WindowsAreRun : Type 0
WindowsAreRun =
    (text : Bytes) (e : Execution) →
    (jobs_of (stages (printed text e)) ≡ window_jobs (one_job e)) ×
    (jobs_of (stages (executed e)) ≡ window_jobs (one_job e)) ×
    (jobs_of (stages (summed e text)) ≡ window_jobs (one_job e))

-- The runs of an execution of the algorithm of a text, in every interleaving of its one job over all rows.
pub record RunsTrue (text : Bytes) (e : Execution) : Type 0 where
  -- the algorithm of the text, and that the tree that is executed does what it says
  pub algorithm : Algorithm text
  pub made : DoesAsTold algorithm.marks algorithm.main e.main
  -- no limit is met
  pub limit : limit_of (one_job e) ≡ None
  -- each state is what its counts tell, no load finds an element of another round than its own, and until all is done
  -- some sequence is enabled
  pub laws : HasLaws (one_job e)
  -- row k of an actuator is what the text's takes in reaction k where it was taken, and zeros elsewhere
  pub rows : (list : List ℕ) (v a k : ℕ) (x : flat.Vertex) → slice_get (flat_of e.main).vertices v ≡ Some x →
      x.kind ≡ Actuator a → k < length e.rows.reactions
      → row_at (run (one_job e) list).rows k a
      ≡ cond (nat_lt k (done_in (one_job e) (count (run (one_job e) list)) v))
      (vector_at (act_row_at algorithm.marks algorithm.main e.rows.reactions k) a)
      (zeros (slice_index_or (lens_of (flat_of e.main).vertices x.ins) 0 0))
  -- when all is done, all are taken
  pub ended : (list : List ℕ) → IsDone (one_job e) (run (one_job e) list) →
      (run (one_job e) list).rows ≡ taken algorithm.marks algorithm.main e.rows.reactions
  -- these are what is put out, in lines with the names of the text's actuators
  pub acts : acts_of e.main e.rows.reactions ≡ taken algorithm.marks algorithm.main e.rows.reactions
  pub lines : output_of e.main e.rows.reactions ≡ lines_taken algorithm.marks algorithm.main e.rows.reactions
  -- it may be done in windows
  pub windows : (from count : ℕ) → from + count ≤ length e.rows.reactions → IsWindow (one_job e) from count

-- the text of a command's algorithm, where files are told: that of a load is made
abbrev pub IsAlgorithmOf : (Bytes → Option Bytes) → Command → Bytes → Type 0
IsAlgorithmOf told (plain (check a h)) text = told a ≡ Some text
IsAlgorithmOf told (plain (algorithm_text what a)) text = told a ≡ Some text
IsAlgorithmOf told (plain (schedule_text what a h)) text = told a ≡ Some text
IsAlgorithmOf told (plain (dates a h g n)) text = told a ≡ Some text
IsAlgorithmOf told (plain (sim a s)) text = told a ≡ Some text
IsAlgorithmOf told (job (running a h s workers)) text = told a ≡ Some text
IsAlgorithmOf told (job (exec a h c s workers)) text = told a ≡ Some text
IsAlgorithmOf told (job (load n)) text = text ≡ load_algorithm n

-- The text of a command's sensor table, where files are told: that of a load is made.
abbrev pub IsTableOf : (Bytes → Option Bytes) → Command → Bytes → Type 0
IsTableOf told (plain (sim a s)) table = told s ≡ Some table
IsTableOf told (plain _) table = ⊥
IsTableOf told (job (running a h s workers)) table = told s ≡ Some table
IsTableOf told (job (exec a h c s workers)) table = told s ≡ Some table
IsTableOf told (job (load n)) table = table ≡ load_table n

-- An execution is one of the text of the command's algorithm, over the rows that the command's table has for the
-- sensors of that text.
pub record RunsAsTold (told : Bytes → Option Bytes) (command : Command) (e : Execution) : Type 0 where
  pub text : Bytes
  pub is_told : IsAlgorithmOf told command text
  pub runs : RunsTrue text e
  pub table : Bytes
  pub table_told : IsTableOf told command table
  pub reads : rows_of runs.algorithm.main (records default_config (strip_bom table)) ≡ Ok e.rows

-- What a simulation writes: what the actuators of the text take over the rows that the table says for its sensors.
pub record SimulatesTrue (told : Bytes → Option Bytes) (a s output : Bytes) : Type 0 where
  pub text : Bytes
  pub table : Bytes
  pub rows : Reactions
  pub algorithm : Algorithm text
  pub text_told : told a ≡ Some text
  pub table_told : told s ≡ Some table
  pub reads : rows_of algorithm.main (records default_config (strip_bom table)) ≡ Ok rows
  pub lines : output ≡ lines_taken algorithm.marks algorithm.main rows.reactions

-- What is written of an algorithm on an architecture is right for what their files say.
abbrev pub ScheduleTrue : (Bytes → Option Bytes) → ScheduleText → Bytes → Bytes → Bytes → Type 0
ScheduleTrue told Chart a h text = ChartsTrue told a h text
ScheduleTrue told Code a h text = CodesTrue told a h text

-- What a command writes by one call is right for what its files say.
abbrev pub WritesTrue : (Bytes → Option Bytes) → Command → Bytes → Type 0
WritesTrue told (plain (check a None)) text = ChecksAlgorithm told a text
WritesTrue told (plain (check a (Some h))) text = ChecksBoth told a h text
WritesTrue told (plain (algorithm_text what a)) text = TellsTrue told what a text
WritesTrue told (plain (schedule_text what a h)) text = ScheduleTrue told what a h text
WritesTrue told (plain (dates a h g n)) text = DatesTrue told a h g n text
WritesTrue told (plain (sim a s)) text = SimulatesTrue told a s text
WritesTrue told (job command) text = ⊥

-- What `run` writes first is the macro-code of the program that is executed, which is read as that program, and an
-- empty line.
pub record PrintsCode (text : Bytes) (e : Execution) : Type 0 where
  pub code : Bytes
  pub described : Described
  pub stands : e.architecture ≡ described.archi
  pub is : IsCode (flat_of e.main) described e.program code
  pub front : text ≡ code ++ codes "\n"

-- What `load` writes ends with the sum of all that the actuators of the text take, modulo 2^64.
abbrev pub SumsTrue : (told : Bytes → Option Bytes) (command : Command) (e : Execution) → RunsAsTold told command e →
    Bytes → Type 0
SumsTrue told command e runs text =
    text ≡ summary_with e (sum_of (taken runs.runs.algorithm.marks runs.runs.algorithm.main e.rows.reactions))

-- What a command makes: a text that is right, or an execution that runs true, of which `run` prints the program before
-- it, and `load` the sum. Words that are no command make nothing.
abbrev pub MakesTrue : (Bytes → Option Bytes) → Option Command → Given → Type 0
MakesTrue told None given = ⊥
MakesTrue told (Some command) (written text) = WritesTrue told command text
MakesTrue told (Some command) (printed text e) = RunsAsTold told command e × PrintsCode text e
MakesTrue told (Some command) (executed e) = RunsAsTold told command e
MakesTrue told (Some command) (summed e text) =
    (runs : RunsAsTold told command e) × SumsTrue told command e runs text

-- Whatever a command comes to make of files that are told runs true.
abbrev pub AcceptedRunTrue : Type 0
AcceptedRunTrue =
    (command : Command) (told : Bytes → Option Bytes) (given : Given) →
    outcome told (plan_for command) ≡ Some (Ok given) → MakesTrue told (Some command) given
