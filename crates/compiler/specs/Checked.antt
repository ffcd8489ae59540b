-- The program of a text of macro-code that is well formed, or why there is none.
use Rattle.std.specs.Prelude.{◌≡◌, ℕ, List, length, Some, Result, Ok, Err}
use Rattle.text_lines.specs.declared.fault.TextError.TheVariants as code
use Rattle.text_lines.specs.Refusals.{Fails}
use Rattle.sequence_build_laws.specs.Graph.{Graph}
use Rattle.sequence_build_laws.specs.Archi.{Architecture}
use Rattle.sequence_build_laws.specs.Sequences.{sequences}
use Rattle.sequence_build_laws.specs.declared.Program.{Program}
use Rattle.sequence_build_laws.specs.WellFormed.{IsWellFormed}
use Rattle.check_laws.specs.Tests.{cause}
use Rattle.macro_check.specs.Causes.{cause_of}
use Rattle.macro_check.specs.declared.cause.CheckError.{CheckError}
use Rattle.macro_check.specs.declared.cause.CheckError.TheVariants as check
use Rattle.macro_code.specs.ReadText.{program_in}
use Rattle.macro_check.specs.declared.CheckCause.{CheckCause}
use Rattle.compiler.specs.declared.checked_error.CheckedError.{CheckedError}
use Rattle.compiler.specs.declared.checked_error.CheckedError.TheVariants.{Text, Lacks}

-- what a refusal of the check is beside those of the text
abbrev pub lacks : CheckError → CheckedError
lacks (check.Refused cause) = Lacks cause
lacks check.OutOfMemory = Text code.OutOfMemory

-- a text says a program, and this is the first that it lacks
abbrev pub IsLacking : List ℕ → Graph → Architecture → CheckCause → Type 0
IsLacking text g a c =
    (p : Program) × (program_in text g a ≡ Ok p) ×
    (cause p g.vertices (sequences a) (length a.operators) (length a.media) ≡ Some (cause_of c))

-- what a text gives: its program, which is well formed; its first refusal; or the first that its program lacks
abbrev pub GivesChecked : List ℕ → Graph → Architecture → Result Program CheckedError → Type 0
GivesChecked text g a (Ok p) = (program_in text g a ≡ Ok p) × IsWellFormed p g (sequences a) (length a.media)
GivesChecked text g a (Err (Text e)) = Fails e (program_in text g a)
GivesChecked text g a (Err (Lacks c)) = IsLacking text g a c
