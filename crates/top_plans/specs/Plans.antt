-- The plan of each command: which files it reads, in which order it is refused, and what it makes.
use Rattle.std.specs.Prelude.{
  ◌*◌,
  ◌++◌,
  ℕ,
  ℤ,
  nat_lt,
  List,
  [],
  ◌∷◌,
  length,
  sum,
  if◌then◌else◌,
  Option,
  Some,
  None,
  codes,
}
use Rattle.compiler.specs.Executions.{Execution, one_job, acts_of, output_of}
use Rattle.std.specs.Fmt.{decimal, signed_decimal}
use Rattle.std.specs.List.{flat_map}
use Rattle.csv.specs.Reading.{default_config, records, strip_bom}
use Rattle.syn_base.specs.Bytes.{Bytes}
use Rattle.syn_base.specs.Arithmetic.{wrapped}
use Rattle.syn_base.specs.Limits.{bound_of}
use Rattle.syn_base.specs.Rows.{Reactions}
use Rattle.syn_base.specs.declared.limits.LimitFault.{LimitFault}
use Rattle.syn_base.specs.declared.limits.LimitKind.TheVariants.{Output}
use Rattle.algo_print.specs.Canonical.{canonical_text}
use Rattle.algo_rules.specs.Level.{all_joined}
use Rattle.algo_rules.specs.Expr.{total}
use Rattle.algo_rules.specs.declared.Defs.{Defs}
use Rattle.algo_rules.specs.Text.{definitions_of}
use Rattle.algo_rules.specs.Tree.{Vertex}
use Rattle.algo_rules.specs.Ends.{actuator_lengths}
use Rattle.archi_reader.specs.Canonical as architecture
use Rattle.pressure_heuristic.specs.Computed.{table_of}
use Rattle.pressure_heuristic.specs.Pressure.{pressure_run}
use Rattle.pressure_heuristic.specs.Tasks.{task}
use Rattle.sequence_build.specs.Limit.{program_limit}
use Rattle.word_rule.specs.Job.{total_steps}
use Rattle.word_rule.specs.IsJob.{limit_of}
use Rattle.actual_durations.specs.Actual.{actual_of}
use Rattle.self_timed.specs.Text.{Described, description_of}
use Rattle.self_timed.specs.Archi.{Architecture as Archi}
use Rattle.self_timed.specs.Sequences.{sequences}
use Rattle.self_timed.specs.Table.{Table, durations_of}
use Rattle.self_timed.specs.Graph.{Graph}
use Rattle.self_timed.specs.declared.Schedule.{Schedule}
use Rattle.self_timed.specs.declared.Program.{Program}
use Rattle.self_timed.specs.Built.{program_of}
use Rattle.dates_text.specs.Chart as timing
use Rattle.dates_text.specs.Listing.{dates_text}
use Rattle.command_status.specs.Bytes.{joined}
use Rattle.command_status.specs.Shelf.{file_limit}
use Rattle.command_status.specs.declared.File.{File}
use Rattle.command_status.specs.declared.File.TheVariants.{Algorithm, Architecture, Sensors, Code, Durations}
use Rattle.command_status.specs.CodeText.{macro_code}
use Rattle.command_status.specs.ReadText.{program_in}
use Rattle.command_status.specs.declared.CheckCause.{CheckCause}
use Rattle.command_status.specs.SensorTable.{rows_of}
use Rattle.command_status.specs.Plan.{Plan, give, refuse, read, after}
use Rattle.command_status.specs.Status.{
  Refusal,
  above,
  failed_check,
  of_algorithm,
  of_architecture,
  of_code,
  of_durations,
  of_sensors,
  usage,
}
use Rattle.command_words.specs.Command.{
  Command,
  plain,
  job,
  check,
  algorithm_text,
  schedule_text,
  dates,
  sim,
  run,
  exec,
  load,
}
use Rattle.command_words.specs.declared.table.AlgorithmText.{AlgorithmText}
use Rattle.command_words.specs.declared.table.ScheduleText.{ScheduleText}
use Rattle.command_words.specs.declared.table.ScheduleText.TheVariants as shown
use Rattle.accepted_laws.specs.Elaborated.{elaboration_of}
use Rattle.accepted_laws.specs.FlatOf.{flat_of}
use Rattle.top_plans.specs.Given.{Given, written, printed, executed, summed}
use Rattle.top_plans.specs.GraphText.{graph_text}
use Rattle.top_plans.specs.Loads.{load_algorithm, load_architecture, load_table}
use Rattle.top_plans.specs.Checks.{lacking}
use Rattle.syn_base.specs.Vectors.{Values}
use Rattle.compiler.specs.Schedules.{schedule_of, program_by}
use Rattle.compiler.specs.Outputs.{excess}

-- The plan of a command of this program: in the end it gives what is to be made, or refuses.
abbrev pub Made : Type 0
Made = Plan Refusal Given

-- The parts of plans, whatever a plan gives in the end.

-- Read a file, and go on with its text, or refuse it if it is too long.
abbrev pub read_file : {A : Type 0} → File → Bytes → (Bytes → Plan Refusal A) → Plan Refusal A
read_file file name next = read file name (above file_limit) next

-- go on where there is no limit fault
abbrev pub unless : {A : Type 0} → Option LimitFault → Plan Refusal A → Plan Refusal A
unless (Some fault) next = refuse (above fault)
unless None next = next

-- what a text says of an algorithm, and then what its definitions resolve to
abbrev pub algorithm_in : {A : Type 0} → Bytes → (Defs → Vertex → Plan Refusal A) → Plan Refusal A
algorithm_in text next =
    after of_algorithm (definitions_of text) (λ defs. after of_algorithm (elaboration_of defs) (next defs))

-- what a text says of an architecture
abbrev pub described_in : {A : Type 0} → Bytes → (Described → Plan Refusal A) → Plan Refusal A
described_in text next = after of_architecture (description_of text) next

-- Take the text of an architecture, go on with what it describes and with the durations of the
-- algorithm's operations, or refuse it.
abbrev pub architecture_in : {A : Type 0} → Bytes → Vertex → (Described → Table → Plan Refusal A) → Plan Refusal A
architecture_in text main next = described_in text (λ d. after of_architecture (durations_of (flat_of main) d) (next d))

-- the rows of a table
abbrev pub table_in : {A : Type 0} → Vertex → Bytes → (Reactions → Plan Refusal A) → Plan Refusal A
table_in main table next = after of_sensors (rows_of main (records default_config (strip_bom table))) next

-- Read the file of an algorithm, and go on with its definitions and its main graph, or refuse it.
abbrev pub algorithm_plan : {A : Type 0} → Bytes → (Defs → Vertex → Plan Refusal A) → Plan Refusal A
algorithm_plan a next = read_file Algorithm a (λ text. algorithm_in text next)

-- Read the file of an architecture, and go on with what it describes and how long the algorithm's
-- operations last on it, or refuse it.
abbrev pub architecture_plan : {A : Type 0} → Bytes → Vertex → (Described → Table → Plan Refusal A) → Plan Refusal A
architecture_plan h main next = read_file Architecture h (λ text. architecture_in text main next)

-- Read the file of a sensor table, and go on with its rows for the algorithm's sensors, or refuse
-- it.
abbrev pub table_plan : {A : Type 0} → Vertex → Bytes → (Reactions → Plan Refusal A) → Plan Refusal A
table_plan main s next = read_file Sensors s (λ table. table_in main table next)

-- both canonical texts, with an empty line between them
abbrev pub both_texts : Defs → Described → Bytes
both_texts defs d = canonical_text defs ++ (codes "\n" ++ architecture.canonical_text d)

-- the canonical text of the algorithm, and that of an architecture beside it
abbrev pub check_plan : Bytes → Option Bytes → Made
check_plan a None = algorithm_plan a (λ defs main. give (written (canonical_text defs)))
check_plan a (Some h) =
    algorithm_plan a (λ defs main. architecture_plan h main (λ d t. give (written (both_texts defs d))))

-- The plan of a command that writes this of the algorithm in file a.
abbrev pub text_plan : AlgorithmText → Bytes → Made
text_plan text a = algorithm_plan a (λ defs main. give (written (graph_text text (flat_of main))))

-- what the actuators take, where it is within its bound
abbrev pub rows_plan : Vertex → Reactions → Made
rows_plan main rows =
    unless (excess (length rows.reactions * sum (actuator_lengths main)))
    (give (written (output_of main rows.reactions)))

-- The plan of `sim`: the output text of the algorithm in file a over the rows of the table in file
-- s, if it is within its bound.
abbrev pub sim_plan : Bytes → Bytes → Made
sim_plan a s = algorithm_plan a (λ defs main. table_plan main s (rows_plan main))

-- The timing chart of the pressure run's schedule of this graph on this architecture, with these
-- durations.
abbrev pub chart_of : Graph → Described → Table → Bytes
chart_of g d t = timing.chart g d.archi (schedule_of g d.archi t)

-- The plan of `chart`: the timing chart of the algorithm in file a on the architecture in file h.
abbrev pub chart_plan : Bytes → Bytes → Made
chart_plan a h =
    algorithm_plan a (λ defs main. architecture_plan h main (λ d t. give (written (chart_of (flat_of main) d t))))

-- Go on with the program of the pressure run's schedule, or refuse it if it is above one of its
-- limits.
abbrev pub program_plan : {A : Type 0} → Graph → Archi → Table → (Program → Plan Refusal A) → Plan Refusal A
program_plan g a t next = unless (program_limit (program_by g a t) (length a.media)) (next (program_by g a t))

-- Write the macro-code of the program of the pressure run's schedule.
abbrev pub macro_plan : Graph → Archi → Table → Made
macro_plan g a t = program_plan g a t (λ p. give (written (macro_code p g a)))

-- The plan of `code`: the macro-code of the algorithm in file a on the architecture in file h.
abbrev pub code_plan : Bytes → Bytes → Made
code_plan a h = algorithm_plan a (λ defs main. architecture_plan h main (λ d t. macro_plan (flat_of main) d.archi t))

-- a program that is executed over these rows, within the limits of the one job over all of them
abbrev pub execution : Vertex → Archi → Program → Reactions → Execution
execution main a p rows = record { main = main; architecture = a; program = p; rows = rows }

-- Give what is made of an execution, or refuse it if its one job over all rows is above one of the
-- limits of a run.
abbrev pub execution_plan : {A : Type 0} → Execution → (Execution → A) → Plan Refusal A
execution_plan e what = unless (limit_of (one_job e)) (give (what e))

-- the macro-code and an empty line
abbrev pub head : Execution → Bytes
head e = macro_code e.program (flat_of e.main) e.architecture ++ codes "\n"

-- The rows come before the limits of the program, and these before the limits of the run.
abbrev pub run_plan : Bytes → Bytes → Bytes → Made
run_plan a h s =
    algorithm_plan a (λ defs main.
    architecture_plan h main (λ d t.
    table_plan main s (λ rows.
    program_plan (flat_of main) d.archi t (λ p.
    execution_plan (execution main d.archi p rows) (λ e. printed (head e) e)))))

-- the sum of all that is put out, brought back modulo 2^64
abbrev pub sum_of : List Values → ℤ
sum_of acts = wrapped (total (flat_map all_joined acts))

-- The numbers of operations, of sequences and of micro-steps of an execution, and this sum.
abbrev pub summary_with : Execution → ℤ → Bytes
summary_with e sum = joined (
    codes "operations " ∷ decimal (length (flat_of e.main).vertices)
    ∷ codes "\nsequences " ∷ decimal (length (sequences e.architecture))
    ∷ codes "\nsteps " ∷ decimal (total_steps e.program (length e.rows.reactions))
    ∷ codes "\nsum " ∷ signed_decimal sum ∷ codes "\n" ∷ []
    )

-- The same with the sum of all that is put out.
abbrev pub summary : Execution → Bytes
summary e = summary_with e (sum_of (acts_of e.main e.rows.reactions))

-- go on where a program lacks nothing
abbrev pub unless_lacking : {A : Type 0} → Option CheckCause → Plan Refusal A → Plan Refusal A
unless_lacking (Some cause) next = refuse (failed_check cause)
unless_lacking None next = next

-- the program of a text of macro-code within its limits, and then its check
abbrev pub code_in : {A : Type 0} → Bytes → Graph → Archi → (Program → Plan Refusal A) → Plan Refusal A
code_in text g a next = after of_code (program_in text g a) (λ p. unless_lacking (lacking g a p) (next p))

-- Durations of the architecture are passed over. The code and its check come before the rows, and these before the
-- limits of the run.
abbrev pub exec_plan : Bytes → Bytes → Bytes → Bytes → Made
exec_plan a h c s =
    algorithm_plan a (λ defs main.
    read_file Architecture h (λ lines. described_in lines (λ d.
    read_file Code c (λ text. code_in text (flat_of main) d.archi (λ p.
    table_plan main s (λ rows.
    execution_plan (execution main d.archi p rows) executed))))))

-- how long operations and transfers of the schedule really last, by a text
abbrev pub durations_in : Bytes → Graph → Archi → Table → (List ℕ → Made) → Made
durations_in text g a t next = after of_durations (actual_of g a t (schedule_of g a t) text) next

-- The durations that really occur come before the limits of the program.
abbrev pub dates_plan : Bytes → Bytes → Bytes → ℕ → Made
dates_plan a h g n =
    algorithm_plan a (λ defs main.
    architecture_plan h main (λ d t.
    read_file Durations g (λ text. durations_in text (flat_of main) d.archi t (λ ticks.
    program_plan (flat_of main) d.archi t (λ p.
    give (written (dates_text (flat_of main) d.archi (schedule_of (flat_of main) d.archi t) ticks n)))))))

-- The texts of an algorithm, an architecture and a table are carried out as they stand; no file is read.
abbrev pub load_plan : (a h s : Bytes) → Made
load_plan a h s =
    algorithm_in a (λ defs main.
    architecture_in h main (λ d t.
    table_in main s (λ rows.
    program_plan (flat_of main) d.archi t (λ p.
    execution_plan (execution main d.archi p rows) (λ e. summed e (summary e))))))

-- The plan of a command that writes this of the algorithm in file a on the architecture in file h.
abbrev pub schedule_plan : ScheduleText → Bytes → Bytes → Made
schedule_plan shown.Chart a h = chart_plan a h
schedule_plan shown.Code a h = code_plan a h

-- The plan of a command. The number of workers makes no difference to it.
abbrev pub plan_for : Command → Made
plan_for (plain (check a h)) = check_plan a h
plan_for (plain (algorithm_text text a)) = text_plan text a
plan_for (plain (schedule_text text a h)) = schedule_plan text a h
plan_for (plain (dates a h g n)) = dates_plan a h g n
plan_for (plain (sim a s)) = sim_plan a s
plan_for (job (run a h s workers)) = run_plan a h s
plan_for (job (exec a h c s workers)) = exec_plan a h c s
plan_for (job (load n)) = load_plan (load_algorithm n) load_architecture (load_table n)

-- the plan of the words
abbrev pub plan_of : Option Command → Made
plan_of None = refuse usage
plan_of (Some command) = plan_for command
