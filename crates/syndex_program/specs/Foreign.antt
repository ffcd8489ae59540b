-- What a text of macro-code answers, where its program is checked.
use Rattle.std.specs.Prelude.{◌≡◌, length, None, Result, Ok, Err}
use Rattle.syn_base.specs.Bytes.{Bytes}
use Rattle.self_timed.specs.Archi.{Architecture as Archi}
use Rattle.self_timed.specs.Sequences.{sequences}
use Rattle.self_timed.specs.Graph.{Graph}
use Rattle.self_timed.specs.declared.Program.{Program}
use Rattle.self_timed.specs.WellFormed.{IsWellFormed}
use Rattle.top_plans.specs.Shelf.{Held}
use Rattle.top_plans.specs.declared.File.TheVariants.{Code}
use Rattle.top_plans.specs.ReadText.{program_in}
use Rattle.top_plans.specs.Status.{status_of_code}
use Rattle.top_plans.specs.declared.Status.{Status}
use Rattle.top_plans.specs.declared.Status.TheVariants.{CheckRefused}
use Rattle.top_plans.specs.Checks.{lacking}
use Rattle.compiler.specs.Checked.{GivesChecked}
use Rattle.top_plans.specs.Reads.{ReadsFile, Told}
use Rattle.compiler.specs.declared.checked_error.CheckedError.{CheckedError}
use Rattle.compiler.specs.declared.checked_error.CheckedError.TheVariants.{Text, Lacks}

-- the status of a text that gives no program
abbrev pub status_of_checked : CheckedError → Status
status_of_checked (Text error) = status_of_code error
status_of_checked (Lacks cause) = CheckRefused cause

module _ (g : Graph) (a : Archi) where
  -- the program of a text, which lacks nothing
  pub record IsProgram (text : Bytes) (p : Program) : Type 0 where
    pub says : program_in text g a ≡ Ok p
    pub whole : lacking g a p ≡ None
    pub formed : IsWellFormed p g (sequences a) (length a.media)

  -- The program of a text, which lacks nothing; or the status of its first refusal, or of the first that its program
  -- lacks.
  abbrev pub MakesProgram : Bytes → Result Program Status → Type 0
  MakesProgram text (Ok p) = IsProgram text p
  MakesProgram text (Err status) = Told status_of_checked (GivesChecked text g a) (Err status)

  -- the program of a file
  abbrev pub ReadsProgram : Bytes → Held → Held → Result Program Status → Type 0
  ReadsProgram = ReadsFile Code MakesProgram
