-- Along the plan of a command: whatever refusals have, and reads where what follows has it, and what is given.
use Rattle.std.proofs.Common.{◌≡◌, ℕ, List, length, Option, Some, None, Result, Ok, Err, refl, sym, subst}
use Rattle.compiler.specs.Executions.{Execution, one_job, output_of}
use Rattle.compiler.specs.Outputs.{excess}
use Rattle.compiler.specs.Schedules.{program_by, schedule_of}
use Rattle.csv.specs.Reading.{default_config, records, strip_bom}
use Rattle.syn_base.specs.Bytes.{Bytes}
use Rattle.syn_base.specs.Rows.{Reactions}
use Rattle.syn_base.specs.declared.limits.LimitFault.{LimitFault}
use Rattle.text_lines.specs.Refusals as refusals
use Rattle.algo_rules.specs.Refusals.{AlgoRefusal}
use Rattle.algo_rules.specs.declared.Defs.{Defs}
use Rattle.algo_rules.specs.Text.{definitions_of}
use Rattle.algo_rules.specs.Tree.{Vertex}
use Rattle.actual_durations.specs.Actual.{actual_of}
use Rattle.self_timed.specs.Refusals.{ArchiRefusal}
use Rattle.self_timed.specs.Archi.{Architecture as Archi}
use Rattle.self_timed.specs.Text.{Described, description_of}
use Rattle.self_timed.specs.Table.{Table, durations_of}
use Rattle.self_timed.specs.Graph.{Graph}
use Rattle.self_timed.specs.declared.Program.{Program}
use Rattle.dates_text.specs.Listing.{dates_text}
use Rattle.algo_print.specs.Canonical.{canonical_text}
use Rattle.sequence_build.specs.Limit.{program_limit}
use Rattle.word_rule.specs.IsJob.{limit_of}
use Rattle.command_status.specs.declared.File.{File}
use Rattle.command_status.specs.declared.File.TheVariants.{Algorithm, Architecture, Sensors, Code, Durations}
use Rattle.command_status.specs.declared.SensorError.{SensorError}
use Rattle.command_status.specs.declared.SensorError.TheVariants as sensors
use Rattle.command_status.specs.CodeRefusals.{CodeRefusal}
use Rattle.command_status.specs.ReadText.{program_in}
use Rattle.command_status.specs.declared.CheckCause.{CheckCause}
use Rattle.command_status.specs.declared.ActualError.{ActualError}
use Rattle.command_status.specs.declared.ActualError.TheVariants as actual
use Rattle.command_status.specs.SensorTable.{rows_of}
use Rattle.command_status.specs.CodeText.{macro_code}
use Rattle.command_status.specs.Plan.{give, refuse, after}
use Rattle.command_status.specs.Status.{Refusal, above, failed_check, of_algorithm, of_architecture, of_code, of_durations, of_sensors, usage, wants_memory}
use Rattle.command_words.specs.Command.{Command, plain, job, check, algorithm_text, schedule_text, dates, sim, run, exec, load}
use Rattle.command_words.specs.declared.table.ScheduleText.{ScheduleText}
use Rattle.command_words.specs.declared.table.ScheduleText.TheVariants as shown
use Rattle.accepted_laws.specs.Elaborated.{elaboration_of}
use Rattle.accepted_laws.specs.FlatOf.{flat_of}
use Rattle.top_plans.specs.Names.{names_for}
use Rattle.top_plans.specs.Given.{Given, written, printed, executed, summed}
use Rattle.top_plans.specs.Plans.{
  Made,
  both_texts,
  chart_of,
  read_file,
  unless,
  unless_lacking,
  algorithm_in,
  described_in,
  architecture_in,
  table_in,
  code_in,
  durations_in,
  program_plan,
  rows_plan,
  execution,
  execution_plan,
  head,
  summary,
  load_plan,
  plan_for,
}
use Rattle.top_plans.specs.GraphText.{graph_text}
use Rattle.top_plans.specs.Loads.{load_algorithm, load_architecture, load_table}
use Rattle.top_plans.specs.Checks.{lacking}
use Rattle.top_plans.proofs.Only.{Only}
use Rattle.top_plans.proofs.DurationRefusals as durations
use Rattle.top_plans.proofs.TableRefusals as tables

-- where the program of an execution comes from
pub data Comes (d : Described) (e : Execution) : Type 0 where
  built : (t : Table) → durations_of (flat_of e.main) d ≡ Ok t → e.program ≡ program_by (flat_of e.main) d.archi t → Comes d e
  checked : lacking (flat_of e.main) d.archi e.program ≡ None → Comes d e

-- all that was accepted on the way to an execution
pub record IsAccepted (e : Execution) : Type 0 where
  pub text : Bytes
  pub defs : Defs
  pub says : definitions_of text ≡ Ok defs
  pub resolves : elaboration_of defs ≡ Ok e.main
  pub lines : Bytes
  pub described : Described
  pub describes : description_of lines ≡ Ok described
  pub stands : e.architecture ≡ described.archi
  pub comes : Comes described e
  pub table : Bytes
  pub tells : rows_of e.main (records default_config (strip_bom table)) ≡ Ok e.rows
  pub limit : limit_of (one_job e) ≡ None

-- what a simulation comes to write, of texts that are told
pub record IsSimulated (Told : Bytes → Bytes → Type 0) (a s output : Bytes) : Type 0 where
  pub text : Bytes
  pub text_told : Told a text
  pub defs : Defs
  pub main : Vertex
  pub says : definitions_of text ≡ Ok defs
  pub resolves : elaboration_of defs ≡ Ok main
  pub table : Bytes
  pub table_told : Told s table
  pub rows : Reactions
  pub tells : rows_of main (records default_config (strip_bom table)) ≡ Ok rows
  pub lines : output ≡ output_of main rows.reactions

-- an algorithm that was read and accepted
pub record IsRead (Told : Bytes → Bytes → Type 0) (a : Bytes) (defs : Defs) (main : Vertex) : Type 0 where
  pub text : Bytes
  pub text_told : Told a text
  pub says : definitions_of text ≡ Ok defs
  pub resolves : elaboration_of defs ≡ Ok main

-- an architecture that was read and accepted for it
pub record IsPlaced (Told : Bytes → Bytes → Type 0) (h : Bytes) (main : Vertex) (d : Described) (t : Table) : Type 0 where
  pub lines : Bytes
  pub lines_told : Told h lines
  pub describes : description_of lines ≡ Ok d
  pub lasts : durations_of (flat_of main) d ≡ Ok t

-- what is written of an algorithm
pub record Writes (Told : Bytes → Bytes → Type 0) (a : Bytes) (makes : Defs → Vertex → Bytes) (output : Bytes) : Type 0 where
  pub defs : Defs
  pub main : Vertex
  pub read : IsRead Told a defs main
  pub is : output ≡ makes defs main

-- what is written of an algorithm on an architecture
pub record WritesOn (Told : Bytes → Bytes → Type 0) (a h : Bytes) (makes : Defs → Vertex → Described → Table → Bytes) (output : Bytes) : Type 0 where
  pub defs : Defs
  pub main : Vertex
  pub described : Described
  pub table : Table
  pub read : IsRead Told a defs main
  pub placed : IsPlaced Told h main described table
  pub is : output ≡ makes defs main described table

-- the program of the pressure run is within its limits
abbrev pub IsWithin : Vertex → Described → Table → Type 0
IsWithin main d t = program_limit (program_by (flat_of main) d.archi t) (length d.archi.media) ≡ None

abbrev pub code_by : Defs → Vertex → Described → Table → Bytes
code_by defs main d t = macro_code (program_by (flat_of main) d.archi t) (flat_of main) d.archi

abbrev pub dates_by : List ℕ → ℕ → Defs → Vertex → Described → Table → Bytes
dates_by ticks n defs main d t = dates_text (flat_of main) d.archi (schedule_of (flat_of main) d.archi t) ticks n

-- what is written of the durations that really occur
pub record WritesDates (Told : Bytes → Bytes → Type 0) (a h g : Bytes) (n : ℕ) (output : Bytes) : Type 0 where
  pub real : Bytes
  pub real_told : Told g real
  pub ticks : List ℕ
  pub on : WritesOn Told a h (dates_by ticks n) output
  pub lasts : actual_of (flat_of on.main) on.described.archi on.table (schedule_of (flat_of on.main) on.described.archi on.table) real ≡ Ok ticks

-- the program of an execution is that of the pressure run
pub record IsBuilt (d : Described) (e : Execution) : Type 0 where
  pub table : Table
  pub lasts : durations_of (flat_of e.main) d ≡ Ok table
  pub made : e.program ≡ program_by (flat_of e.main) d.archi table
  pub within : IsWithin e.main d table

-- what a run may come to print
pub record Runs (Told : Bytes → Bytes → Type 0) (a s front : Bytes) (e : Execution) : Type 0 where
  pub is : IsAccepted e
  pub text_told : Told a is.text
  pub table_told : Told s is.table
  pub by : IsBuilt is.described e
  pub first : front ≡ head e

-- what may come to be written of an algorithm on an architecture
abbrev pub LeafOn : (Bytes → Bytes → Type 0) → ScheduleText → Bytes → Bytes → Bytes → Type 0
LeafOn Told shown.Chart a h t = WritesOn Told a h (λ defs main d l. chart_of (flat_of main) d l) t
LeafOn Told shown.Code a h t = (x : WritesOn Told a h code_by t) × IsWithin x.main x.described x.table

-- what a command may come to give, where each text that was read is told under the name of its file
abbrev pub Leaf : (Bytes → Bytes → Type 0) → Command → Given → Type 0
Leaf Told (plain (check a None)) (written t) = Writes Told a (λ defs main. canonical_text defs) t
Leaf Told (plain (check a (Some h))) (written t) = WritesOn Told a h (λ defs main d l. both_texts defs d) t
Leaf Told (plain (algorithm_text text a)) (written t) = Writes Told a (λ defs main. graph_text text (flat_of main)) t
Leaf Told (plain (schedule_text text a h)) (written t) = LeafOn Told text a h t
Leaf Told (plain (dates a h g n)) (written t) = WritesDates Told a h g n t
Leaf Told (plain (sim a s)) (written t) = IsSimulated Told a s t
Leaf Told (plain command) (printed t e) = ⊥
Leaf Told (plain command) (executed e) = ⊥
Leaf Told (plain command) (summed e t) = ⊥
Leaf Told (job (run a h s workers)) (printed t e) = Runs Told a s t e
Leaf Told (job (load n)) (summed e t) = (is : IsAccepted e) × (is.text ≡ load_algorithm n) × (is.table ≡ load_table n) × (t ≡ summary e)
Leaf Told (job (exec a h c s workers)) (executed e) = (is : IsAccepted e) × Told a is.text × Told s is.table
Leaf Told (job _) _ = ⊥

-- no part refuses as words that are no command, nor for want of memory
pub record IsTold (r : Refusal) : Type 0 where
  pub no_usage : ¬ (r ≡ usage)
  pub no_want : ¬ (r ≡ wants_memory)

pub told_above : (fault : LimitFault) → IsTold (above fault)
told_above fault = record { no_usage = λ q. cc; no_want = λ q. cc }

pub told_algorithm : (refusal : AlgoRefusal) → IsTold (of_algorithm refusal)
told_algorithm (refusals.Refused fault) = record { no_usage = λ q. cc; no_want = λ q. cc }
told_algorithm (refusals.Limit fault) = told_above fault

pub told_architecture : (refusal : ArchiRefusal) → IsTold (of_architecture refusal)
told_architecture (refusals.Refused fault) = record { no_usage = λ q. cc; no_want = λ q. cc }
told_architecture (refusals.Limit fault) = told_above fault

pub told_sensors : (e : SensorError) → tables.Stays e → IsTold (of_sensors e)
told_sensors (sensors.Refused fault) s = record { no_usage = λ q. cc; no_want = λ q. cc }
told_sensors (sensors.Limit fault) s = told_above fault
told_sensors sensors.OutOfMemory s = absurd s

pub told_code : (refusal : CodeRefusal) → IsTold (of_code refusal)
told_code (refusals.Refused fault) = record { no_usage = λ q. cc; no_want = λ q. cc }
told_code (refusals.Limit fault) = told_above fault

pub told_durations : (e : ActualError) → durations.Stays e → IsTold (of_durations e)
told_durations (actual.Refused fault) s = record { no_usage = λ q. cc; no_want = λ q. cc }
told_durations (actual.Limit fault) s = told_above fault
told_durations actual.OutOfMemory s = absurd s

-- a property of plans that refusals have, and that reads have where what follows has it for each text that is told
module _ (Told : Bytes → Bytes → Type 0) (Q : Made → Type 0) (refused : (r : Refusal) → IsTold r → Q (refuse r)) where
  after_so : {X E : Type 0} {P : E → Type 0} (refusal : E → Refusal) → ((e : E) → P e → IsTold (refusal e)) → (answer : Result X E)
      → Only P answer → (next : X → Made) → ((x : X) → answer ≡ Ok x → Q (next x))
      → Q (after refusal answer next)
  after_so refusal told (Ok x) only next h = h x refl
  after_so refusal told (Err e) only next h = refused (refusal e) (told e only.error)

  after_told : {X E : Type 0} (refusal : E → Refusal) → ((e : E) → IsTold (refusal e)) → (answer : Result X E) (next : X → Made)
      → ((x : X) → answer ≡ Ok x → Q (next x)) → Q (after refusal answer next)
  after_told refusal told (Ok x) next h = h x refl
  after_told refusal told (Err e) next h = refused (refusal e) (told e)

  unless_within : (o : Option LimitFault) (next : Made) → (o ≡ None → Q next) → Q (unless o next)
  unless_within (Some f) next h = refused (above f) (told_above f)
  unless_within None next h = h refl

  algorithm_so : (text : Bytes) (next : Defs → Vertex → Made)
      → ((defs : Defs) (main : Vertex) → definitions_of text ≡ Ok defs → elaboration_of defs ≡ Ok main → Q (next defs main)) → Q (algorithm_in text next)
  algorithm_so text next h =
      after_told of_algorithm told_algorithm (definitions_of text) (λ defs. after of_algorithm (elaboration_of defs) (next defs))
      (λ defs p. after_told of_algorithm told_algorithm (elaboration_of defs) (next defs) (λ main q. h defs main p q))

  architecture_so : (text : Bytes) (main : Vertex) (next : Described → Table → Made) → ((d : Described) (t : Table) → description_of text ≡ Ok d → durations_of (flat_of main) d ≡ Ok t → Q (next d t))
      → Q (architecture_in text main next)
  architecture_so text main next h = after_told of_architecture told_architecture (description_of text) (λ d. after of_architecture (durations_of (flat_of main) d) (next d))
      (λ d p. after_told of_architecture told_architecture (durations_of (flat_of main) d) (next d) (λ t q. h d t p q))

  table_so : (main : Vertex) (table : Bytes) (next : Reactions → Made)
      → ((rows : Reactions) → rows_of main (records default_config (strip_bom table)) ≡ Ok rows → Q (next rows)) → Q (table_in main table next)
  table_so main table next h = after_so of_sensors told_sensors (rows_of main (records default_config (strip_bom table))) (tables.table_safe main (records default_config (strip_bom table))) next h

  rows_so : (main : Vertex) (rows : Reactions) → Q (give (written (output_of main rows.reactions))) → Q (rows_plan main rows)
  rows_so main rows h = unless_within (excess _) _ (λ n. h)

  program_so : (g : Graph) (a : Archi) (t : Table) (next : Program → Made) → (program_limit (program_by g a t) (length a.media) ≡ None → Q (next (program_by g a t))) → Q (program_plan g a t next)
  program_so g a t next h = unless_within (program_limit (program_by g a t) (length a.media)) (next (program_by g a t)) h

  unless_none : (o : Option CheckCause) (next : Made) → (o ≡ None → Q next) → Q (unless_lacking o next)
  unless_none (Some cause) next h = refused (failed_check cause) (record { no_usage = λ q. cc; no_want = λ q. cc })
  unless_none None next h = h refl

  described_so : (text : Bytes) (next : Described → Made) → ((d : Described) → description_of text ≡ Ok d → Q (next d)) → Q (described_in text next)
  described_so text next h = after_told of_architecture told_architecture (description_of text) next h

  code_so : (text : Bytes) (g : Graph) (a : Archi) (next : Program → Made) → ((p : Program) → lacking g a p ≡ None → Q (next p)) → Q (code_in text g a next)
  code_so text g a next h = after_told of_code told_code (program_in text g a) (λ p. unless_lacking (lacking g a p) (next p)) (λ p q. unless_none (lacking g a p) (next p) (h p))

  durations_so : (text : Bytes) (g : Graph) (a : Archi) (t : Table) (next : List ℕ → Made)
      → ((ticks : List ℕ) → actual_of g a t (schedule_of g a t) text ≡ Ok ticks → Q (next ticks)) → Q (durations_in text g a t next)
  durations_so text g a t next h = after_so of_durations told_durations (actual_of g a t (schedule_of g a t) text) (durations.actual_safe g a t (schedule_of g a t) text) next h

  -- an execution of the program that the pressure run gives
  execution_so : (text : Bytes) (defs : Defs) (main : Vertex) (lines : Bytes) (d : Described) (t : Table) (table : Bytes) (rows : Reactions) (what : Execution → Given)
      → definitions_of text ≡ Ok defs → elaboration_of defs ≡ Ok main → description_of lines ≡ Ok d → durations_of (flat_of main) d ≡ Ok t
      → rows_of main (records default_config (strip_bom table)) ≡ Ok rows
      → ((e : Execution) (is : IsAccepted e) → is.text ≡ text → is.table ≡ table → IsBuilt is.described e → Q (give (what e)))
      → Q (program_plan (flat_of main) d.archi t (λ p. execution_plan (execution main d.archi p rows) what))
  execution_so text defs main lines d t table rows what says resolves describes lasts tells h =
      let e = execution main d.archi (program_by (flat_of main) d.archi t) rows in
      program_so (flat_of main) d.archi t (λ p. execution_plan (execution main d.archi p rows) what) (λ within. unless_within (limit_of (one_job e)) (give (what e)) (λ n. h e (record {
        text = text;
        defs = defs;
        says = says;
        resolves = resolves;
        lines = lines;
        described = d;
        describes = describes;
        stands = refl;
        comes = built t lasts refl;
        table = table;
        tells = tells;
        limit = n;
      }) refl refl (record { table = t; lasts = lasts; made = refl; within = within })))

  -- an execution of a program that was checked
  checked_so : (text : Bytes) (defs : Defs) (main : Vertex) (lines : Bytes) (d : Described) (p : Program) (table : Bytes) (rows : Reactions)
      → definitions_of text ≡ Ok defs → elaboration_of defs ≡ Ok main → description_of lines ≡ Ok d → lacking (flat_of main) d.archi p
      ≡ None → rows_of main (records default_config (strip_bom table)) ≡ Ok rows
      → ((e : Execution) (is : IsAccepted e) → is.text ≡ text → is.table ≡ table → Q (give (executed e))) → Q (execution_plan (execution main d.archi p rows) executed)
  checked_so text defs main lines d p table rows says resolves describes whole tells h =
      let e = execution main d.archi p rows in
      unless_within (limit_of (one_job e)) (give (executed e)) (λ n. h e (record {
        text = text;
        defs = defs;
        says = says;
        resolves = resolves;
        lines = lines;
        described = d;
        describes = describes;
        stands = refl;
        comes = checked whole;
        table = table;
        tells = tells;
        limit = n;
      }) refl refl)

  -- a load, whatever its texts are
  load_so : (a h s : Bytes) → ((e : Execution) (is : IsAccepted e) → is.text ≡ a → is.table ≡ s → Q (give (summed e (summary e))))
      → Q (load_plan a h s)
  load_so a h s gives = algorithm_so a _ (λ defs main p q. architecture_so h main _ (λ d t u v. table_so main s _ (λ rows r.
      execution_so a defs main h d t s rows (λ e. summed e (summary e)) p q u v r (λ e is same listed by. gives e is same listed))))

  -- what was read and accepted on the way to what is written
  wrote : (a : Bytes) (makes : Defs → Vertex → Bytes) (text : Bytes) (defs : Defs) (main : Vertex) → Told a text → definitions_of text ≡ Ok defs → elaboration_of defs ≡ Ok main
      → Writes Told a makes (makes defs main)
  wrote a makes text defs main at p q = record {
    defs = defs;
    main = main;
    read = record { text = text; text_told = at; says = p; resolves = q };
    is = refl;
  }

  wrote_on : (a h : Bytes) (makes : Defs → Vertex → Described → Table → Bytes) (text lines : Bytes) (defs : Defs) (main : Vertex) (d : Described) (t : Table)
      → Told a text → definitions_of text ≡ Ok defs → elaboration_of defs ≡ Ok main → Told h lines → description_of lines ≡ Ok d → durations_of (flat_of main) d ≡ Ok t
      → WritesOn Told a h makes (makes defs main d t)
  wrote_on a h makes text lines defs main d t at p q to u v = record {
    defs = defs;
    main = main;
    described = d;
    table = t;
    read = record { text = text; text_told = at; says = p; resolves = q };
    placed = record { lines = lines; lines_told = to; describes = u; lasts = v };
    is = refl;
  }

  abbrev Reads : (File → Option Bytes) → Type 0
  Reads names = (file : File) (name : Bytes) (next : Bytes → Made) → names file ≡ Some name
      → ((bytes : Bytes) → Told name bytes → Q (next bytes)) → Q (read_file file name next)

  -- the plan of each command
  pub walk : (command : Command) → Reads (names_for command) → ((g : Given) → Leaf Told command g → Q (give g)) → Q (plan_for command)
  unfolding wrote_on
  walk (plain (check a None)) reads gives = reads Algorithm a _ refl (λ text at. algorithm_so text _ (λ defs main p q. gives _ (wrote a (λ defs main. canonical_text defs) text defs main at p q)))
  walk (plain (check a (Some h))) reads gives = reads Algorithm a _ refl (λ text at. algorithm_so text _ (λ defs main p q.
      reads Architecture h _ refl (λ lines to. architecture_so lines main _ (λ d t u v. gives _ (wrote_on a h (λ defs main d t. both_texts defs d) text lines defs main d t at p q to u v)))))
  walk (plain (sim a s)) reads gives = reads Algorithm a _ refl (λ text at. algorithm_so text _ (λ defs main p q.
      reads Sensors s _ refl (λ table on. table_so main table _ (λ rows r. rows_so main rows (gives (written (output_of main rows.reactions)) (record {
        text = text;
        text_told = at;
        defs = defs;
        main = main;
        says = p;
        resolves = q;
        table = table;
        table_told = on;
        rows = rows;
        tells = r;
        lines = refl;
      }))))))
  walk (plain (algorithm_text what a)) reads gives =
      reads Algorithm a _ refl (λ text at. algorithm_so text _
      (λ defs main p q. gives _ (wrote a (λ defs main. graph_text what (flat_of main)) text defs main at p q)))
  walk (plain (schedule_text shown.Chart a h)) reads gives = reads Algorithm a _ refl (λ text at. algorithm_so text _ (λ defs main p q.
      reads Architecture h _ refl (λ lines to. architecture_so lines main _ (λ d t u v. gives _ (wrote_on a h (λ defs main d t. chart_of (flat_of main) d t) text lines defs main d t at p q to u v)))))
  walk (plain (schedule_text shown.Code a h)) reads gives = reads Algorithm a _ refl (λ text at. algorithm_so text _ (λ defs main p q.
      reads Architecture h _ refl (λ lines to. architecture_so lines main _ (λ d t u v.
      program_so (flat_of main) d.archi t (λ p. give (written (macro_code p (flat_of main) d.archi)))
      (λ within. gives _ (wrote_on a h code_by text lines defs main d t at p q to u v, within))))))
  walk (job (run a h s workers)) reads gives = reads Algorithm a _ refl (λ text at. algorithm_so text _ (λ defs main p q.
      reads Architecture h _ refl (λ lines to. architecture_so lines main _ (λ d t u v.
      reads Sensors s _ refl (λ table on. table_so main table _ (λ rows r.
      execution_so text defs main lines d t table rows (λ e. printed (head e) e) p q u v r
      (λ e is same listed by. gives (printed (head e) e) (record {
        is = is;
        text_told = subst (λ x. Told a x) (sym same) at;
        table_told = subst (λ x. Told s x) (sym listed) on;
        by = by;
        first = refl;
      }))))))))
  walk (job (load n)) reads gives = load_so (load_algorithm n) load_architecture (load_table n) (λ e is same listed. gives (summed e (summary e)) (is, same, listed, refl))
  walk (job (exec a h c s workers)) reads gives = reads Algorithm a _ refl (λ text at. algorithm_so text _ (λ defs main p q.
      reads Architecture h _ refl (λ lines to. described_so lines _ (λ d u.
      reads Code c _ refl (λ macros by. code_so macros (flat_of main) d.archi _ (λ program whole.
      reads Sensors s _ refl (λ table on. table_so main table _ (λ rows r.
      checked_so text defs main lines d program table rows p q u whole r
      (λ e is same listed. gives (executed e) (is, subst (λ x. Told a x) (sym same) at, subst (λ x. Told s x) (sym listed) on))))))))))
  walk (plain (dates a h g n)) reads gives = reads Algorithm a _ refl (λ text at. algorithm_so text _ (λ defs main p q.
      reads Architecture h _ refl (λ lines to. architecture_so lines main _ (λ d t u v.
      reads Durations g _ refl (λ real by. durations_so real (flat_of main) d.archi t _ (λ ticks l.
      program_so (flat_of main) d.archi t (λ p. give (written (dates_text (flat_of main) d.archi (schedule_of (flat_of main) d.archi t) ticks n)))
      (λ within. gives _ (record {
        real = real;
        real_told = by;
        ticks = ticks;
        on = wrote_on a h (dates_by ticks n) text lines defs main d t at p q to u v;
        lasts = l;
      }))))))))
