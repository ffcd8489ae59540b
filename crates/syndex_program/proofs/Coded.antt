-- Carrying out the plan of macro-code of any hand, part by part.
use Rattle.std.proofs.Common.{◌≡◌, ◌∙◌, List, [], ◌∷◌, map, length, Option, Some, Result, Ok, Err, refl, sym, ap, subst, inl, inr}
use Rattle.std.specs.Prelude.{ℕ, IsTrue, Vec}
use Rattle.syn_base.specs.Bytes.{Bytes}
use Rattle.text_lines.specs.declared.fault.TextError.TheVariants as error
use Rattle.text_lines.specs.Refusals.{Refused, Limit}
use Rattle.self_timed.specs.Archi.{Architecture as Archi, is_archi}
use Rattle.self_timed.specs.Sequences.{sequences}
use Rattle.self_timed.specs.Graph.{Graph}
use Rattle.self_timed.specs.declared.Program.{Program}
use Rattle.self_timed.specs.WellFormed.{IsWellFormed}
use Rattle.compiler.specs.Checked.{GivesChecked}
use Rattle.compiler.specs.declared.checked_error.CheckedError.{CheckedError}
use Rattle.compiler.specs.declared.checked_error.CheckedError.TheVariants.{Text, Lacks}
use Rattle.macro_check.specs.Awaiting.{place_of}
use Rattle.macro_check.specs.Causes.{cause_of}
use Rattle.word_rule.specs.Driven.{Driven, driven_by}
use Rattle.top_plans.specs.Shelf.{Held}
use Rattle.top_plans.specs.Sink.{Sunk}
use Rattle.top_plans.specs.declared.File.TheVariants.{Code}
use Rattle.top_plans.specs.ReadText.{program_in}
use Rattle.top_plans.specs.declared.CheckCause.{CheckCause}
use Rattle.top_plans.specs.declared.CheckCause.TheVariants.{Sequences, Calls, Transfers, Buffers, Pairs, Prologue, Stuck}
use Rattle.top_plans.specs.declared.Stop.{Stop}
use Rattle.top_plans.specs.Plan.{Plan}
use Rattle.top_plans.specs.Ending.{Ending, no_memory, refused}
use Rattle.top_plans.specs.Run.{Ends, Makes, Ran, WasRead, not_read, refuses, was_read}
use Rattle.top_plans.proofs.Makes.{after_err, after_ok, memory, wanting}
use Rattle.top_plans.specs.Status.{Refusal, ending_of, failed_check, of_code}
use Rattle.top_plans.specs.declared.Status.{Status}
use Rattle.top_plans.specs.Written.{Written}
use Rattle.top_plans.proofs.Meaning.{writes_one}
use Rattle.top_plans.specs.Checks.{lacking, stop_of, told}
use Rattle.top_plans.proofs.Checks.{lacks, lacks_nothing}
use Rattle.top_plans.specs.Given.{Given, performed}
use Rattle.top_plans.specs.Plans.{Made, code_in, read_file, unless_lacking}
use Rattle.top_plans.specs.Reads.{text_in}
use Rattle.syndex_program.specs.Executes.{EndsOrWants}
use Rattle.syndex_program.specs.Foreign.{IsProgram, MakesProgram, ReadsProgram, status_of_checked}

-- a cause is told as it is
same_stops : (ys : List Stop) → map stop_of (map place_of ys) ≡ ys
same_stops [] = refl
same_stops (y ∷ ys) = ap (λ (zs : List Stop). y ∷ zs) (same_stops ys)

same_cause : (c : CheckCause) → told (cause_of c) ≡ c
same_cause Sequences = refl
same_cause Calls = refl
same_cause Transfers = refl
same_cause Buffers = refl
same_cause Pairs = refl
same_cause Prologue = refl
same_cause (Stuck ys) = ap (λ (zs : List Stop). Stuck zs) (same_stops ys)

module _ (g : Graph) (a : Archi) where
  -- a program that is well formed lacks nothing
  pub is_program : (text : Bytes) (p : Program) → IsTrue (is_archi a.operators a.media) → program_in text g a ≡ Ok p → IsWellFormed p g (sequences a) (length a.media) → IsProgram g a text p
  is_program text p valid says formed = record { says = says; whole = lacks_nothing g a p valid formed; formed = formed }

  module _ {A : Type 0} (text : Bytes) (next : Program → Plan Refusal A) where
    abbrev checked : Program → Plan Refusal A
    checked p = unless_lacking (lacking g a p) (next p)

    -- a text is refused, or its program fails the check
    code_stops : (held : Held) (e : CheckedError) → GivesChecked text g a (Err e) → Makes held held (code_in text g a next) (Err (ending_of (status_of_checked e)))
    code_stops held (Text (error.Refused fault)) is = after_err held of_code (program_in text g a) checked (Refused fault) is
    code_stops held (Text (error.Limit fault)) is = after_err held of_code (program_in text g a) checked (Limit fault) is
    code_stops held (Text error.OutOfMemory) is = memory held (code_in text g a next)
    code_stops held (Lacks c) (p, says, wants) =
        let is : lacking g a p ≡ Some c = lacks g a p (cause_of c) wants ∙ ap Some (same_cause c) in
        after_ok held held of_code (program_in text g a) checked (Err (refused (failed_check c))) p says
        (subst (λ (o : Option CheckCause). Makes held held (unless_lacking o (next p)) (Err (refused (failed_check c)))) (sym is) (refuses (inl refl, λ file name. refl)))

    -- its program lacks nothing, and then the plan went on with it
    program_so : (old new : Held) (p : Program) (made : Result A (Ending Refusal)) → IsProgram g a text p → Makes old new (next p) made → Makes old new (code_in text g a next) made
    program_so old new p made is m =
        after_ok old new of_code (program_in text g a) checked made p is.says
        (subst (λ (o : Option CheckCause). Makes old new (unless_lacking o (next p)) made) (sym is.whole) m)

  -- a file was read, and its text gives a program or is refused
  pub program_read : (name : Bytes) (old new : Held) (text : Bytes) (r : Result Program Status) → WasRead Code name old new text → MakesProgram g a text r → ReadsProgram g a name old new r
  program_read name old new text (Ok p) read is = (text, read, is)
  program_read name old new text (Err status) read h = inr (text, read, h)

  module _ {A : Type 0} (name : Bytes) (next : Program → Plan Refusal A) where
    -- a file without a program stops the plan
    pub program_stops : (old new : Held) (status : Status) → ReadsProgram g a name old new (Err status) → Makes old new (read_file Code name (λ text. code_in text g a next)) (Err (ending_of status))
    program_stops old new status (inl failed) = not_read failed
    program_stops old new status (inr (text, read, (e, made, is))) =
        was_read new text read (subst (λ (x : Status). Makes new new (code_in text g a next) (Err (ending_of x))) (sym is) (code_stops text next new e made))

    pub program_went_on : (old mid new : Held) (p : Program) (made : Result A (Ending Refusal)) → ReadsProgram g a name old mid (Ok p) → Makes mid new (next p) made
        → Makes old new (read_file Code name (λ text. code_in text g a next)) made
    program_went_on old mid new p made (text, read, is) m = was_read mid text read (program_so text next mid new p made is m)

-- memory may run out before anything is performed
pub ran_so : (plan : Made) (made : Result Given (Ending Refusal)) (held held' : Held) (sunk sunk' : Sunk) (d d' : Driven) (ending : Ending Refusal)
    → Makes held held' plan made → EndsOrWants made sunk sunk' d d' ending → Ran driven_by performed plan held held' sunk sunk' d d' ending
ran_so plan made held held' sunk sunk' d d' ending m (inl h) = (made, m, h)
ran_so plan made held held' sunk sunk' d d' ending m (inr h) = (Err no_memory, wanting held held' plan made m, h)

-- the text was written, or why there is none is the ending
pub written_ends : {A : Type 0} (made : Result (Vec ℕ A) Status) (sunk sunk' : Sunk) (d : Driven) (ending : Ending Refusal)
    → Written made sunk sunk' ending → Ends driven_by performed (text_in made) sunk sunk' d d ending
written_ends (Ok text) sunk sunk' d ending h = writes_one driven_by text.items sunk sunk' d ending h
written_ends (Err status) sunk sunk' d ending h = (h.0, h.1, refl)
