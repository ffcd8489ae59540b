-- Carrying out the plan of a command, part by part.
use Rattle.std.proofs.Common.{◌≡◌, Option, Some, None, Result, Ok, Err, refl, sym, subst, inl, inr}
use Rattle.syn_base.specs.Bytes.{Bytes}
use Rattle.csv.specs.Reading.{default_config, records, strip_bom}
use Rattle.syn_base.specs.Rows.{Reactions}
use Rattle.syn_base.specs.declared.limits.LimitFault.{LimitFault}
use Rattle.text_lines.specs.Refusals.{Refused, Limit, error_of}
use Rattle.text_lines.specs.declared.fault.TextError.TheVariants as error
use Rattle.algo_rules.specs.Refusals.{AlgoError, AlgoRefusal}
use Rattle.algo_rules.specs.declared.Defs.{Defs}
use Rattle.algo_rules.specs.Text.{definitions_of}
use Rattle.algo_rules.specs.Tree.{Vertex}
use Rattle.command_status.specs.Shelf.{Held}
use Rattle.accepted_laws.specs.Elaborated.{elaboration_of}
use Rattle.command_status.specs.SensorAnswers as table
use Rattle.command_status.specs.SensorTable.{rows_of}
use Rattle.command_status.specs.declared.SensorError.{SensorError}
use Rattle.command_status.specs.declared.SensorError.TheVariants as sensors
use Rattle.command_status.specs.Plan.{Plan, after}
use Rattle.command_status.specs.Ending.{Ending, refused}
use Rattle.command_status.specs.Run.{Makes, not_read, refuses, was_read}
use Rattle.command_status.proofs.Makes.{after_err, after_ok, memory}
use Rattle.command_status.specs.Status.{Refusal, above, ending_of, of_algorithm, of_sensors, status_of_algorithm, status_of_sensors}
use Rattle.command_status.specs.declared.Status.{Status}
use Rattle.top_plans.specs.Plans.{algorithm_in, algorithm_plan, table_in, table_plan, unless}
use Rattle.compiler.specs.Compiles.{IsAlgorithm, IsRefused, MakesAlgorithm, resolves_none, says_none}
use Rattle.top_plans.specs.Reads.{ReadsAlgorithm, ReadsTable}
use Rattle.compiler.specs.declared.stages.Algorithm.{Algorithm}

module _ {A : Type 0} where
  module _ {X : Type 0} (held : Held) (answer : Result X AlgoRefusal) (next : X → Plan Refusal A) where
    -- an algorithm's text or its definitions are refused
    by_refusal : (r : AlgoRefusal) → answer ≡ Err r → Makes held held (after of_algorithm answer next) (Err (ending_of (status_of_algorithm (error_of r))))
    by_refusal (Refused fault) is = after_err held of_algorithm answer next (Refused fault) is
    by_refusal (Limit fault) is = after_err held of_algorithm answer next (Limit fault) is

  module _ (text : Bytes) (next : Defs → Vertex → Plan Refusal A) where
    abbrev behind : Plan Refusal A
    behind = after of_algorithm (definitions_of text) (λ defs. after of_algorithm (elaboration_of defs) (next defs))

    is_refused : (held : Held) (r : AlgoRefusal) → IsRefused text r → Makes held held behind (Err (ending_of (status_of_algorithm (error_of r))))
    is_refused held r (says_none is) = by_refusal held (definitions_of text) (λ defs. after of_algorithm (elaboration_of defs) (next defs)) r is
    is_refused held r (resolves_none defs says is) =
        after_ok held held of_algorithm (definitions_of text) (λ ds. after of_algorithm (elaboration_of ds) (next ds)) (Err (ending_of (status_of_algorithm (error_of r)))) defs says
        (by_refusal held (elaboration_of defs) (next defs) r is)

    pub refused_so : (held : Held) (e : AlgoError) → MakesAlgorithm text (Err e) → Makes held held behind (Err (ending_of (status_of_algorithm e)))
    refused_so held (error.Refused fault) h = is_refused held (Refused fault) h
    refused_so held (error.Limit fault) h = is_refused held (Limit fault) h
    refused_so held error.OutOfMemory h = memory held behind

    pub resolved_so : (old new : Held) (algorithm : Algorithm) (made : Result A (Ending Refusal)) → IsAlgorithm text algorithm
        → Makes old new (next algorithm.defs algorithm.tree) made → Makes old new behind made
    resolved_so old new algorithm made is m =
        after_ok old new of_algorithm (definitions_of text) (λ ds. after of_algorithm (elaboration_of ds) (next ds)) made algorithm.defs is.says
        (after_ok old new of_algorithm (elaboration_of algorithm.defs) (next algorithm.defs) made algorithm.tree is.resolves m)

  -- an algorithm was read, and then the plan went on with it
  pub went_on : (name : Bytes) (a b c : Held) (algorithm : Algorithm) (next : Defs → Vertex → Plan Refusal A) (made : Result A (Ending Refusal))
      → ReadsAlgorithm name a b (Ok algorithm) → Makes b c (next algorithm.defs algorithm.tree) made → Makes a c (algorithm_plan name next) made
  went_on name a b c algorithm next made (text, read, is) m = was_read b text read (resolved_so text next b c algorithm made is m)

  -- a file without an algorithm stops the plan
  pub algorithm_stops : (name : Bytes) (old new : Held) (status : Status) (next : Defs → Vertex → Plan Refusal A) → ReadsAlgorithm name old new (Err status)
      → Makes old new (algorithm_plan name next) (Err (ending_of status))
  algorithm_stops name old new status next (inl failed) = not_read failed
  algorithm_stops name old new status next (inr (text, read, (e, made, is))) =
      was_read new text read (subst (λ (x : Status). Makes new new (algorithm_in text next) (Err (ending_of x))) (sym is) (refused_so text next new e made))

  -- a table is refused, or memory ran out
  pub table_refused : {X : Type 0} (held : Held) (answer : Result X SensorError) (next : X → Plan Refusal A) (e : SensorError) → table.Fails e answer
      → Makes held held (after of_sensors answer next) (Err (ending_of (status_of_sensors e)))
  table_refused held answer next (sensors.Refused fault) (inl is) = after_err held of_sensors answer next (sensors.Refused fault) is
  table_refused held answer next (sensors.Limit fault) (inl is) = after_err held of_sensors answer next (sensors.Limit fault) is
  table_refused held answer next sensors.OutOfMemory h = memory held (after of_sensors answer next)
  table_refused held answer next (sensors.Refused fault) (inr wants) = cc
  table_refused held answer next (sensors.Limit fault) (inr wants) = cc

  -- the rows of a table, and then the plan went on with them
  pub rows_so : (main : Vertex) (table : Bytes) (a b : Held) (rows : Reactions) (next : Reactions → Plan Refusal A) (made : Result A (Ending Refusal))
      → rows_of main (records default_config (strip_bom table)) ≡ Ok rows → Makes a b (next rows) made → Makes a b (table_in main table next) made
  rows_so main table a b rows next made tells m = after_ok a b of_sensors (rows_of main (records default_config (strip_bom table))) next made rows tells m

  -- a table was read, and then the plan went on with its rows
  pub rows_went_on : (main : Vertex) (name : Bytes) (a b c : Held) (rows : Reactions) (next : Reactions → Plan Refusal A) (made : Result A (Ending Refusal))
      → ReadsTable main name a b (Ok rows) → Makes b c (next rows) made → Makes a c (table_plan main name next) made
  rows_went_on main name a b c rows next made (table, read, is) m = was_read b table read (rows_so main table b c rows next made is.0 m)

  -- a file without a table for these sensors stops the plan
  pub table_stops : (main : Vertex) (name : Bytes) (old new : Held) (status : Status) (next : Reactions → Plan Refusal A) → ReadsTable main name old new (Err status)
      → Makes old new (table_plan main name next) (Err (ending_of status))
  table_stops main name old new status next (inl failed) = not_read failed
  table_stops main name old new status next (inr (table, read, (e, made, is))) =
      was_read new table read (subst (λ (x : Status). Makes new new (table_in main table next) (Err (ending_of x))) (sym is)
      (table_refused new (rows_of main (records default_config (strip_bom table))) next e made))

  -- more than there may be
  pub is_above : (held : Held) (o : Option LimitFault) (fault : LimitFault) (next : Plan Refusal A) → o ≡ Some fault → Makes held held (unless o next) (Err (refused (above fault)))
  is_above held o fault next is = subst (λ (x : Option LimitFault). Makes held held (unless x next) (Err (refused (above fault)))) (sym is) (refuses (inl refl, λ file name. refl))

  pub is_within : (old new : Held) (o : Option LimitFault) (next : Plan Refusal A) (made : Result A (Ending Refusal)) → o ≡ None → Makes old new next made → Makes old new (unless o next) made
  is_within old new o next made is m = subst (λ (x : Option LimitFault). Makes old new (unless x next) made) (sym is) m
