-- What the calls that read a whole text return, beside what is defined.
use Rattle.std.specs.Prelude.{◌≡◌, ℕ, Result, Ok, Err}
use Rattle.text_lines.specs.Refusals.{Fails}
use Rattle.text_lines.specs.declared.fault.TextError.TheVariants.{Refused, Limit, OutOfMemory}
use Rattle.archi_defs.specs.declared.text.ArchiText.{ArchiText}
use Rattle.archi_defs.specs.Refusals.{ArchiError, ArchiRefusal}
use Rattle.archi_defs.specs.Text.{Described, Reading, described, described_by}
use Rattle.archi_reader.specs.declared.reader.Reader.{Reader}
use Rattle.archi_reader.specs.Views.{reading}

-- what reading a text returns: what it describes or its first refusal, unless memory ran out
abbrev pub Gives : Result ArchiText ArchiError → Result Described ArchiRefusal → Type 0
Gives (Ok t) read = read ≡ Ok (described_by t)
Gives (Err e) read = Fails e read

-- what a check of the whole returns: the version of a text that is not refused
abbrev pub Checks : Result ℕ ArchiError → Reading → Result Described ArchiRefusal → Type 0
Checks (Ok version) r read = read ≡ Ok (described r version)
Checks (Err e) r read = Fails e read

-- the reader that was asked for
abbrev pub MakesReader : Result Reader ArchiError → Reading → Type 0
MakesReader (Ok r) wanted = reading r ≡ wanted
MakesReader (Err OutOfMemory) wanted = Unit {0}
MakesReader (Err (Refused f)) wanted = ⊥
MakesReader (Err (Limit f)) wanted = ⊥
