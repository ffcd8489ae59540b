-- What the check refuses is what the program of the text lacks.
use Rattle.std.proofs.Common.{◌≡◌, List, ℕ, length, Some}
use Rattle.std.specs.Prelude.{Ok, Err}
use Rattle.sequence_build_laws.specs.Graph.{Graph}
use Rattle.sequence_build_laws.specs.Archi.{Architecture}
use Rattle.sequence_build_laws.specs.Sequences.{sequences}
use Rattle.sequence_build_laws.specs.declared.Program.{Program}
use Rattle.check_laws.specs.Tests.{cause}
use Rattle.macro_check.specs.Causes.{Refuses}
use Rattle.macro_check.specs.declared.cause.CheckError.{CheckError}
use Rattle.macro_check.specs.declared.cause.CheckError.TheVariants.{Refused, OutOfMemory}
use Rattle.macro_code.specs.ReadText.{program_in}
use Rattle.compiler.specs.Checked.{GivesChecked, lacks}

pub lacking : (text : List ℕ) (g : Graph) (a : Architecture) (p : Program) → program_in text g a ≡ Ok p → (e : CheckError)
    → Refuses (λ c. cause p g.vertices (sequences a) (length a.operators) (length a.media) ≡ Some c) e → GivesChecked text g a (Err (lacks e))
lacking text g a p says (Refused c) told = (p, says, told)
lacking text g a p says OutOfMemory told = tt
