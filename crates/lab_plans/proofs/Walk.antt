-- Along the plan of a command, for whatever refusals have, and reads where what follows has it, and what is given; and no
-- answer is a refusal as words that are no command, nor for want of memory.
use Rattle.std.proofs.Common.{◌≡◌, ℕ, List, Option, Some, None, Result, Ok, Err, refl, subst}
use Rattle.top_plans.specs.Outputs.{excess}
use Rattle.csv.specs.Reading.{default_config, records, strip_bom}
use Rattle.syn_base.specs.Bytes.{Bytes}
use Rattle.syn_base.specs.Rows.{Reactions}
use Rattle.syn_base.specs.declared.limits.LimitFault.{LimitFault}
use Rattle.algo_text.specs.declared.definition.Defs.{Defs}
use Rattle.algo_text.specs.Text.{definitions_of}
use Rattle.algo_tree.specs.Tree.{Vertex}
use Rattle.self_timed.specs.Text.{Described, description_of}
use Rattle.self_timed.specs.Archi.{Architecture as Archi}
use Rattle.self_timed.specs.Table.{Table, durations_of}
use Rattle.self_timed.specs.Graph.{Graph}
use Rattle.self_timed.specs.declared.Program.{Program}
use Rattle.self_timed.specs.declared.Schedule.{Schedule}
use Rattle.top_plans.specs.declared.File.{File}
use Rattle.top_plans.specs.declared.File.TheVariants.{Algorithm, Architecture, Sensors, Code, Durations}
use Rattle.top_plans.specs.Elaborated.{elaboration_of}
use Rattle.top_plans.specs.FlatOf.{flat_of}
use Rattle.top_plans.specs.ReadText.{program_in}
use Rattle.top_plans.specs.SensorTable.{rows_of}
use Rattle.top_plans.specs.declared.ActualError.{ActualError}
use Rattle.top_plans.specs.Actual.{actual_of}
use Rattle.top_plans.specs.Plan.{give, refuse, after, ReadsOnly, RefusesOnly}
use Rattle.top_plans.specs.Status.{Refusal, above, of_algorithm, of_architecture, of_code, of_durations, of_sensors, usage, wants_memory}
use Rattle.top_plans.specs.Plans.{read_file, unless, algorithm_in, architecture_in, described_in, table_in}
use Rattle.top_plans.proofs.Only.{Only}
use Rattle.top_plans.proofs.DurationRefusals as durations
use Rattle.top_plans.proofs.TableRefusals as tables
use Rattle.top_plans.proofs.Walk.{IsTold, told_above, told_algorithm, told_architecture, told_code, told_durations, told_sensors}
use Rattle.lab_words.specs.Command.{Command, Form, help, schedule, graph, table, lint, why, plot, dates, chart, trace, flat, code, report}
use Rattle.lab_plans.specs.Names.{names_for, names_of}
use Rattle.lab_plans.specs.Asked.{Asked, Request, of_text, of_schedule, of_dates}
use Rattle.lab_plans.specs.Answers.{answer, dates_by, limit, within}
use Rattle.lab_plans.specs.Plans.{Asks, plan_for, plan_of}
use Rattle.lab_plans.specs.Refusals.{NoAnswerWantsMemory, NoPlanWantsMemory}

module _ (Q : Asks → Type 0) (refused : (r : Refusal) → IsTold r → Q (refuse r)) where
  after_so : {X E : Type 0} {P : E → Type 0} (refusal : E → Refusal) → ((e : E) → P e → IsTold (refusal e)) → (answer : Result X E) → Only P answer → (next : X → Asks) → ((x : X) → Q (next x))
      → Q (after refusal answer next)
  after_so refusal told (Ok x) only next h = h x
  after_so refusal told (Err e) only next h = refused (refusal e) (told e only.error)

  after_told : {X E : Type 0} (refusal : E → Refusal) → ((e : E) → IsTold (refusal e)) → (answer : Result X E) (next : X → Asks) → ((x : X) → Q (next x)) → Q (after refusal answer next)
  after_told refusal told (Ok x) next h = h x
  after_told refusal told (Err e) next h = refused (refusal e) (told e)

  unless_within : (o : Option LimitFault) (next : Asks) → Q next → Q (unless o next)
  unless_within (Some f) next h = refused (above f) (told_above f)
  unless_within None next h = h

  algorithm_so : (text : Bytes) (next : Defs → Vertex → Asks) → ((defs : Defs) (main : Vertex) → Q (next defs main)) → Q (algorithm_in text next)
  algorithm_so text next h =
      after_told of_algorithm told_algorithm (definitions_of text) (λ defs. after of_algorithm (elaboration_of defs) (next defs))
      (λ defs. after_told of_algorithm told_algorithm (elaboration_of defs) (next defs) (h defs))

  architecture_so : (text : Bytes) (main : Vertex) (next : Described → Table → Asks) → ((d : Described) (t : Table) → Q (next d t)) → Q (architecture_in text main next)
  architecture_so text main next h =
      after_told of_architecture told_architecture (description_of text) (λ d. after of_architecture (durations_of (flat_of main) d) (next d))
      (λ d. after_told of_architecture told_architecture (durations_of (flat_of main) d) (next d) (h d))

  described_so : (text : Bytes) (next : Described → Asks) → ((d : Described) → Q (next d)) → Q (described_in text next)
  described_so text next h = after_told of_architecture told_architecture (description_of text) next h

  program_so : (text : Bytes) (g : Graph) (a : Archi) (next : Program → Asks) → ((p : Program) → Q (next p)) → Q (after of_code (program_in text g a) next)
  program_so text g a next h = after_told of_code told_code (program_in text g a) next h

  table_so : (main : Vertex) (text : Bytes) (next : Reactions → Asks) → ((rows : Reactions) → Q (next rows)) → Q (table_in main text next)
  table_so main text next h =
      after_so of_sensors told_sensors (rows_of main (records default_config (strip_bom text))) (tables.table_safe main (records default_config (strip_bom text))) next h

  abbrev Reads : (File → Option Bytes) → Type 0
  Reads names = (file : File) (name : Bytes) (next : Bytes → Asks) → names file ≡ Some name → ((bytes : Bytes) → Q (next bytes)) → Q (read_file file name next)

  -- the plan of each command
  pub walk : (command : Command) → Reads (names_for command) → ((asked : Asked) → Q (give asked)) → Q (plan_for command)
  walk help reads gives = gives _
  walk (schedule subject a h effort) reads gives = reads Algorithm a _ refl (λ text. algorithm_so text _ (λ defs main.
      reads Architecture h _ refl (λ lines. architecture_so lines main _ (λ d t. gives _))))
  walk (graph a) reads gives = reads Algorithm a _ refl (λ text. algorithm_so text _ (λ defs main. gives _))
  walk (table a) reads gives = reads Algorithm a _ refl (λ text. algorithm_so text _ (λ defs main. gives _))
  walk (lint a None) reads gives = reads Algorithm a _ refl (λ text. algorithm_so text _ (λ defs main. gives _))
  walk (lint a (Some h)) reads gives = reads Algorithm a _ refl (λ text. algorithm_so text _ (λ defs main.
      reads Architecture h _ refl (λ lines. architecture_so lines main _ (λ d t. gives _))))
  walk (why a h c) reads gives = reads Algorithm a _ refl (λ text. algorithm_so text _ (λ defs main.
      reads Architecture h _ refl (λ lines. described_so lines _ (λ d.
      reads Code c _ refl (λ bytes. program_so bytes (flat_of main) d.archi _ (λ p. gives _))))))
  walk (plot a s) reads gives = reads Algorithm a _ refl (λ text. algorithm_so text _ (λ defs main.
      reads Sensors s _ refl (λ lines. table_so main lines _ (λ rows. unless_within (excess _) _ (gives _)))))
  walk (dates form a h g n effort) reads gives = reads Algorithm a _ refl (λ text. algorithm_so text _ (λ defs main.
      reads Architecture h _ refl (λ lines. architecture_so lines main _ (λ d t. reads Durations g _ refl (λ bytes. gives _)))))

-- each file is read under the name that the words give it
pub reads_only : (command : Option Command) → ReadsOnly (names_of command) (plan_of command)
reads_only None = tt
reads_only (Some command) = walk (ReadsOnly (names_for command)) (λ r n. tt) command (λ file name next e h. (e, h)) (λ a. tt)

-- no command is refused as words that are none
pub never_usage : (command : Command) → RefusesOnly (λ r. ¬ (r ≡ usage)) (plan_for command)
never_usage command = walk (RefusesOnly (λ r. ¬ (r ≡ usage))) (λ r told. told.no_usage) command (λ file name next e h. ((λ q. cc), h)) (λ a. tt)

pub none_wants : NoPlanWantsMemory
none_wants None = λ q. cc
none_wants (Some command) =
    walk (RefusesOnly (λ r. ¬ (r ≡ wants_memory))) (λ r told. told.no_want) command (λ file name next e h. ((λ q. cc), h)) (λ a. tt)

module _ {A : Type 0} where
  abbrev texted : A → Result A Refusal
  texted a = Ok a

  abbrev stopped : Refusal → Result A Refusal
  stopped r = Err r

  same_stop : (a b : Refusal) → stopped a ≡ stopped b → a ≡ b
  same_stop a b e = cc

  no_stop : (a : A) (b : Refusal) → texted a ≡ stopped b → ⊥
  no_stop a b e = cc

within_told : (o : Option LimitFault) (text : Bytes) (r : Refusal) → within o text ≡ Err r → IsTold r
within_told None text r e = absurd (no_stop text r e)
within_told (Some fault) text r e = subst IsTold (same_stop (above fault) r e) (told_above fault)

dates_told : (form : Form) (p : Request) (n : ℕ) (s : Schedule) (ticks : Result (List ℕ) ActualError) → Only durations.Stays ticks → (r : Refusal) → dates_by form p n s ticks ≡ Err r → IsTold r
dates_told form p n s (Ok ticks) only r e = within_told (limit p s) _ r e
dates_told form p n s (Err error) only r e = subst IsTold (same_stop (of_durations error) r e) (told_durations error only.error)

-- what is answered of a schedule that was found is no refusal of another kind
pub answer_told : (asked : Asked) (s : Schedule) (r : Refusal) → answer asked s ≡ Err r → IsTold r
answer_told (of_text text) s r e = absurd (no_stop text r e)
answer_told (of_schedule chart p) s r e = absurd (no_stop _ r e)
answer_told (of_schedule trace p) s r e = absurd (no_stop _ r e)
answer_told (of_schedule flat p) s r e = absurd (no_stop _ r e)
answer_told (of_schedule code p) s r e = within_told (limit p s) _ r e
answer_told (of_schedule (report n) p) s r e = absurd (no_stop _ r e)
answer_told (of_dates form p text n) s r e =
    dates_told form p n s (actual_of p.graph p.archi p.table s text) (durations.actual_safe p.graph p.archi p.table s text) r e

pub no_answer_wants : NoAnswerWantsMemory
no_answer_wants asked s r e = (answer_told asked s r e).no_want
