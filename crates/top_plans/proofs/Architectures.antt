-- Compiling a tree for the architecture of a text, part by part.
use Rattle.std.proofs.Common.{◌≡◌, inl, inr, Result, Ok, Err, subst, sym}
use Rattle.syn_base.specs.Bytes.{Bytes}
use Rattle.text_lines.specs.Refusals as refusals
use Rattle.text_lines.specs.declared.fault.TextError.TheVariants as error
use Rattle.algo_rules.specs.Tree.{Vertex}
use Rattle.self_timed.specs.Text.{Described, description_of, described_by}
use Rattle.self_timed.specs.declared.ArchiText.{ArchiText}
use Rattle.self_timed.specs.Refusals.{ArchiError, ArchiRefusal}
use Rattle.self_timed.specs.Table.{Table, durations_of}
use Rattle.command_status.specs.Shelf.{Held}
use Rattle.command_status.specs.declared.File.TheVariants.{Architecture}
use Rattle.accepted_laws.specs.FlatOf.{flat_of}
use Rattle.command_status.specs.Plan.{Plan, after}
use Rattle.command_status.specs.Ending.{Ending}
use Rattle.command_status.specs.Run.{Makes, not_read, was_read}
use Rattle.command_status.proofs.Makes.{after_err, after_ok, memory}
use Rattle.command_status.specs.Status.{Refusal, ending_of, of_architecture, status_of_architecture}
use Rattle.command_status.specs.declared.Status.{Status}
use Rattle.top_plans.specs.Plans.{architecture_in, architecture_plan, described_in, read_file}
use Rattle.compiler.specs.Compiles.{IsProblem, IsProblemRefused, MakesProblem, describes_none, lasts_none}
use Rattle.top_plans.specs.Reads.{ReadsProblem, ReadsDescription}
use Rattle.compiler.specs.declared.stages.Problem.{Problem}

module _ {A : Type 0} where
  module _ {X : Type 0} (held : Held) (answer : Result X ArchiRefusal) (next : X → Plan Refusal A) where
    -- a text or its durations are refused
    by_refusal : (r : ArchiRefusal) → answer ≡ Err r → Makes held held (after of_architecture answer next) (Err (ending_of (status_of_architecture (refusals.error_of r))))
    by_refusal (refusals.Refused fault) is = after_err held of_architecture answer next (refusals.Refused fault) is
    by_refusal (refusals.Limit fault) is = after_err held of_architecture answer next (refusals.Limit fault) is

  module _ (main : Vertex) (text : Bytes) (next : Described → Table → Plan Refusal A) where
    abbrev durations_behind : Described → Plan Refusal A
    durations_behind d = after of_architecture (durations_of (flat_of main) d) (next d)

    abbrev behind : Plan Refusal A
    behind = after of_architecture (description_of text) durations_behind

    is_refused : (held : Held) (r : ArchiRefusal) → IsProblemRefused main text r → Makes held held behind (Err (ending_of (status_of_architecture (refusals.error_of r))))
    is_refused held r (describes_none is) = by_refusal held (description_of text) durations_behind r is
    is_refused held r (lasts_none d says is) =
        after_ok held held of_architecture (description_of text) durations_behind (Err (ending_of (status_of_architecture (refusals.error_of r)))) d says
        (by_refusal held (durations_of (flat_of main) d) (next d) r is)

    pub refused_so : (held : Held) (e : ArchiError) → MakesProblem main text (Err e) → Makes held held behind (Err (ending_of (status_of_architecture e)))
    refused_so held (error.Refused fault) h = is_refused held (refusals.Refused fault) h
    refused_so held (error.Limit fault) h = is_refused held (refusals.Limit fault) h
    refused_so held error.OutOfMemory h = memory held behind

    pub described_so : (old new : Held) (problem : Problem) (made : Result A (Ending Refusal)) → IsProblem main text problem
        → Makes old new (next (described_by problem.text) problem.durations) made → Makes old new behind made
    described_so old new problem made is m =
        let d = described_by problem.text in
        after_ok old new of_architecture (description_of text) durations_behind made d is.says
        (after_ok old new of_architecture (durations_of (flat_of main) d) (next d) made problem.durations is.lasts m)

  -- a problem was made from a file, and then the plan went on with it
  pub went_on : (main : Vertex) (name : Bytes) (a b c : Held) (problem : Problem) (next : Described → Table → Plan Refusal A) (made : Result A (Ending Refusal))
      → ReadsProblem main name a b (Ok problem) → Makes b c (next (described_by problem.text) problem.durations) made → Makes a c (architecture_plan name main next) made
  went_on main name a b c problem next made (text, read, is) m = was_read b text read (described_so main text next b c problem made is m)

  -- a file for which there is no problem stops the plan
  pub architecture_stops : (main : Vertex) (name : Bytes) (old new : Held) (status : Status) (next : Described → Table → Plan Refusal A) → ReadsProblem main name old new (Err status)
      → Makes old new (architecture_plan name main next) (Err (ending_of status))
  architecture_stops main name old new status next (inl failed) = not_read failed
  architecture_stops main name old new status next (inr (text, read, (e, made, is))) =
      was_read new text read (subst (λ (x : Status). Makes new new (architecture_in text main next) (Err (ending_of x))) (sym is) (refused_so main text next new e made))

  -- a text of an architecture is refused
  pub text_refused : (held : Held) (bytes : Bytes) (next : Described → Plan Refusal A) (e : ArchiError) → refusals.Fails e (description_of bytes)
      → Makes held held (described_in bytes next) (Err (ending_of (status_of_architecture e)))
  text_refused held bytes next (error.Refused fault) is = after_err held of_architecture (description_of bytes) next (refusals.Refused fault) is
  text_refused held bytes next (error.Limit fault) is = after_err held of_architecture (description_of bytes) next (refusals.Limit fault) is
  text_refused held bytes next error.OutOfMemory is = memory held (described_in bytes next)

  -- a text of an architecture was read, and then the plan went on with what it describes
  pub text_went_on : (name : Bytes) (a b c : Held) (text : ArchiText) (next : Described → Plan Refusal A) (made : Result A (Ending Refusal))
      → ReadsDescription name a b (Ok text) → Makes b c (next (described_by text)) made → Makes a c (read_file Architecture name (λ bytes. described_in bytes next)) made
  text_went_on name a b c text next made (bytes, read, is) m = was_read b bytes read (after_ok b c of_architecture (description_of bytes) next made (described_by text) is m)

  -- a file that describes no architecture stops the plan
  pub description_stops : (name : Bytes) (old new : Held) (status : Status) (next : Described → Plan Refusal A) → ReadsDescription name old new (Err status)
      → Makes old new (read_file Architecture name (λ bytes. described_in bytes next)) (Err (ending_of status))
  description_stops name old new status next (inl failed) = not_read failed
  description_stops name old new status next (inr (text, read, (e, made, is))) =
      was_read new text read (subst (λ (x : Status). Makes new new (described_in text next) (Err (ending_of x))) (sym is) (text_refused new text next e made))
