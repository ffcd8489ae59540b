-- Carrying out the plan of a program that is executed.
use Rattle.std.proofs.Common.{◌≡◌, ◌≤◌, ◌∙◌, length, Option, Some, None, Result, Ok, Err, refl, sym, subst, inl, inr}
use Rattle.compiler.specs.Executions.{Execution, one_job}
use Rattle.compiler.specs.Schedules.{program_by, schedule_of}
use Rattle.csv.specs.Reading.{default_config, records, strip_bom}
use Rattle.syn_base.specs.Bytes.{Bytes}
use Rattle.syn_base.specs.Rows.{Reactions}
use Rattle.syn_base.specs.declared.limits.LimitFault.{LimitFault}
use Rattle.algo_text.specs.declared.definition.Defs.{Defs}
use Rattle.algo_text.specs.Text.{definitions_of}
use Rattle.algo_tree.specs.Tree.{Vertex}
use Rattle.algo_tree.specs.Ends.{sensor_lengths}
use Rattle.word_rule.specs.IsJob.{FitTogether, limit_of}
use Rattle.self_timed.specs.Archi.{Architecture as Archi}
use Rattle.self_timed.specs.Sequences.{sequences}
use Rattle.self_timed.specs.Table.{Table, durations_of}
use Rattle.self_timed.specs.Text.{Described, description_of}
use Rattle.self_timed.specs.Graph.{Graph}
use Rattle.self_timed.specs.declared.Program.{Program}
use Rattle.self_timed.specs.WellFormed.{IsWellFormed}
use Rattle.top_plans.specs.Shelf.{Held}
use Rattle.top_plans.specs.FlatOf.{flat_of}
use Rattle.top_plans.specs.Flat.{HasFlat}
use Rattle.top_plans.specs.Limit.{program_limit}
use Rattle.top_plans.specs.Ending.{Ending, refused}
use Rattle.top_plans.specs.Plan.{Plan, give}
use Rattle.top_plans.specs.Run.{Makes, gives}
use Rattle.top_plans.proofs.Makes.{memory}
use Rattle.top_plans.proofs.Mapped.{Follows, mapped, give_follows, refuse_follows, after_follows, read_follows}
use Rattle.top_plans.specs.Status.{Refusal, above, ending_of, failed_check, of_algorithm, of_architecture, of_code, of_sensors, status_of_build}
use Rattle.top_plans.specs.declared.Status.{Status}
use Rattle.top_plans.specs.declared.CheckCause.{CheckCause}
use Rattle.top_plans.specs.declared.File.TheVariants.{Algorithm, Architecture, Sensors, Code}
use Rattle.top_plans.specs.Elaborated.{elaboration_of}
use Rattle.top_plans.specs.ReadText.{program_in}
use Rattle.top_plans.specs.SensorTable.{rows_of}
use Rattle.top_plans.specs.Checks.{lacking}
use Rattle.top_plans.specs.Given.{Given}
use Rattle.top_plans.specs.Plans.{
  algorithm_in,
  algorithm_plan,
  architecture_in,
  architecture_plan,
  code_in,
  described_in,
  execution,
  execution_plan,
  program_plan,
  read_file,
  table_in,
  table_plan,
  unless,
  unless_lacking,
}
use Rattle.compiler.specs.Builds.{BuildsProgram}
use Rattle.top_plans.specs.declared.BuildError.{BuildError}
use Rattle.top_plans.specs.declared.BuildError.TheVariants as build
use Rattle.top_plans.proofs.Steps.{is_above, is_within}
use Rattle.syndex_program.specs.Executes.{executed_in, files_plan, foreign_plan, made_of, rest_plan, texts_plan}
use Rattle.syndex_program.specs.declared.execution.Execution as built

module _ (main : Vertex) (a : Archi) (rows : Reactions) (p : Program) where
  abbrev e : Execution
  e = execution main a p rows

  -- parts that fit
  pub fit : HasFlat main → IsWellFormed p (flat_of main) (sequences a) (length a.media) → rows.lens ≡ sensor_lengths main → length rows.reactions ≤ 10000 → FitTogether a (one_job e)
  fit has formed lens few = record { media = refl; formed = formed; sensed = lens ∙ sym has.lengths.sensors; few = few; opened = refl }

  abbrev plan : Plan Refusal Execution
  plan = execution_plan e (λ x. x)

  module _ (held : Held) where
    pub given : limit_of (one_job e) ≡ None → Makes held held plan (Ok e)
    given none = is_within held held (limit_of (one_job e)) (give e) (Ok e) none (gives (inl refl, λ file name. refl))

    pub stopped : (fault : LimitFault) → limit_of (one_job e) ≡ Some fault → Makes held held plan (Err (refused (above fault)))
    stopped fault is = is_above held (limit_of (one_job e)) fault (give e) is

    -- a program that was built
    pub built_so : (t : Table) (made : Result Execution (Ending Refusal)) → p ≡ program_by (flat_of main) a t → program_limit (program_by (flat_of main) a t) (length a.media) ≡ None
        → Makes held held plan made → Makes held held (rest_plan main a t rows) made
    built_so t made same none m =
        let q = program_by (flat_of main) a t in
        is_within held held (program_limit q (length a.media)) (execution_plan (execution main a q rows) (λ x. x)) made none
        (subst (λ (x : Program). Makes held held (execution_plan (execution main a x rows) (λ y. y)) made) same m)

-- a program that is not built stops the plan
pub program_stops : {A : Type 0} (g : Graph) (a : Archi) (t : Table) (e : BuildError) (held : Held) (next : Program → Plan Refusal A) → BuildsProgram g a (schedule_of g a t) (Err e)
    → Makes held held (program_plan g a t next) (Err (ending_of (status_of_build e)))
program_stops g a t (build.Limit fault) held next over = is_above held (program_limit (program_by g a t) (length a.media)) fault (next (program_by g a t)) over
program_stops g a t build.OutOfMemory held next over = memory held (program_plan g a t next)

-- what is made of what is executed
module _ (f : Execution → Given) where
  unless_follows : (o : Option LimitFault) (p : Plan Refusal Execution) (q : Plan Refusal Given) → Follows f p q → Follows f (unless o p) (unless o q)
  unless_follows (Some fault) p q h = refuse_follows f (above fault)
  unless_follows None p q h = h

  executed_follows : (e : Execution) → Follows f (execution_plan e (λ x. x)) (execution_plan e f)
  executed_follows e = unless_follows (limit_of (one_job e)) (give e) (give (f e)) (give_follows f e)

  rest_follows : (main : Vertex) (a : Archi) (t : Table) (rows : Reactions) → Follows f (rest_plan main a t rows) (program_plan (flat_of main) a t (λ p. execution_plan (execution main a p rows) f))
  rest_follows main a t rows =
      unless_follows (program_limit (program_by (flat_of main) a t) (length a.media)) _ _ (executed_follows (execution main a (program_by (flat_of main) a t) rows))

  table_follows : (main : Vertex) (table : Bytes) (next : Reactions → Plan Refusal Execution) (next' : Reactions → Plan Refusal Given) → ((rows : Reactions) → Follows f (next rows) (next' rows))
      → Follows f (table_in main table next) (table_in main table next')
  table_follows main table next next' h = after_follows f of_sensors (rows_of main (records default_config (strip_bom table))) next next' h

  algorithm_follows : (text : Bytes) (next : Defs → Vertex → Plan Refusal Execution) (next' : Defs → Vertex → Plan Refusal Given)
      → ((defs : Defs) (main : Vertex) → Follows f (next defs main) (next' defs main))
      → Follows f (algorithm_in text next) (algorithm_in text next')
  algorithm_follows text next next' h = after_follows f of_algorithm (definitions_of text) _ _ (λ defs. after_follows f of_algorithm (elaboration_of defs) (next defs) (next' defs) (h defs))

  described_follows : (text : Bytes) (next : Described → Plan Refusal Execution) (next' : Described → Plan Refusal Given) → ((d : Described) → Follows f (next d) (next' d))
      → Follows f (described_in text next) (described_in text next')
  described_follows text next next' h = after_follows f of_architecture (description_of text) next next' h

  architecture_follows : (text : Bytes) (main : Vertex) (next : Described → Table → Plan Refusal Execution)
      (next' : Described → Table → Plan Refusal Given) → ((d : Described) (t : Table) → Follows f (next d t) (next' d t))
      → Follows f (architecture_in text main next) (architecture_in text main next')
  architecture_follows text main next next' h = described_follows text _ _ (λ d. after_follows f of_architecture (durations_of (flat_of main) d) (next d) (next' d) (h d))

  lacking_follows : (o : Option CheckCause) (p : Plan Refusal Execution) (q : Plan Refusal Given) → Follows f p q → Follows f (unless_lacking o p) (unless_lacking o q)
  lacking_follows (Some cause) p q h = refuse_follows f (failed_check cause)
  lacking_follows None p q h = h

  code_follows : (text : Bytes) (g : Graph) (a : Archi) (next : Program → Plan Refusal Execution) (next' : Program → Plan Refusal Given) → ((p : Program) → Follows f (next p) (next' p))
      → Follows f (code_in text g a next) (code_in text g a next')
  code_follows text g a next next' h = after_follows f of_code (program_in text g a) _ _ (λ p. lacking_follows (lacking g a p) (next p) (next' p) (h p))

  -- of files, of texts, and of a file of macro-code
  pub files_follow : (a h s : Bytes) → Follows f (files_plan a h s)
      (algorithm_plan a (λ defs main. architecture_plan h main (λ d t. table_plan main s (λ rows. program_plan (flat_of main) d.archi t (λ p. execution_plan (execution main d.archi p rows) f)))))
  files_follow a h s =
      read_follows f Algorithm a _ _ _ (λ text. algorithm_follows text _ _ (λ defs main.
      read_follows f Architecture h _ _ _ (λ lines. architecture_follows lines main _ _ (λ d t.
      read_follows f Sensors s _ _ _ (λ table. table_follows main table _ _ (λ rows. rest_follows main d.archi t rows))))))

  pub texts_follow : (a h s : Bytes) → Follows f (texts_plan a h s)
      (algorithm_in a (λ defs main. architecture_in h main (λ d t. table_in main s (λ rows. program_plan (flat_of main) d.archi t (λ p. execution_plan (execution main d.archi p rows) f)))))
  texts_follow a h s = algorithm_follows a _ _ (λ defs main. architecture_follows h main _ _ (λ d t. table_follows main s _ _ (λ rows. rest_follows main d.archi t rows)))

  pub foreign_follow : (a h c s : Bytes) → Follows f (foreign_plan a h c s)
      (algorithm_plan a (λ defs main. read_file Architecture h (λ lines. described_in lines (λ d. read_file Code c (λ text. code_in text (flat_of main) d.archi (λ p.
      table_plan main s (λ rows. execution_plan (execution main d.archi p rows) f)))))))
  foreign_follow a h c s =
      read_follows f Algorithm a _ _ _ (λ text. algorithm_follows text _ _ (λ defs main.
      read_follows f Architecture h _ _ _ (λ lines. described_follows lines _ _ (λ d.
      read_follows f Code c _ _ _ (λ code. code_follows code (flat_of main) d.archi _ _ (λ p.
      read_follows f Sensors s _ _ _ (λ table. table_follows main table _ _ (λ rows. executed_follows (execution main d.archi p rows)))))))))

  -- what was made of an execution
  pub made_so : (r : Result built.Execution Status) → mapped f (executed_in r) ≡ made_of f r
  made_so (Ok x) = refl
  made_so (Err status) = refl

-- what stands at the flat graph that was made stands at the one that is defined
pub at_flat : (P : Graph → Type 0) (main : Vertex) (f : Graph) → f ≡ flat_of main → P f → P (flat_of main)
at_flat P main f is h = subst P is h
