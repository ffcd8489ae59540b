-- What building the program of a schedule answers.
use Rattle.std.specs.Prelude.{◌≡◌, length, Some, None, Result, Ok, Err}
use Rattle.sequence_build_laws.specs.Archi.{Architecture as Archi}
use Rattle.sequence_build_laws.specs.Built.{program_of}
use Rattle.sequence_build_laws.specs.Graph.{Graph}
use Rattle.sequence_build_laws.specs.Sequences.{sequences}
use Rattle.sequence_build_laws.specs.declared.Program.{Program}
use Rattle.sequence_build_laws.specs.declared.Schedule.{Schedule}
use Rattle.sequence_build_laws.specs.WellFormed.{IsWellFormed}
use Rattle.sequence_build.specs.Limit.{program_limit}
use Rattle.sequence_build.specs.declared.error.BuildError.{BuildError}
use Rattle.sequence_build.specs.declared.error.BuildError.TheVariants.{Limit, OutOfMemory}

-- the program of a schedule, within its limits and well formed; or the first limit that it is above; or want of memory
abbrev pub BuildsProgram : Graph → Archi → Schedule → Result Program BuildError → Type 0
BuildsProgram g a s (Ok p) =
    (p ≡ program_of g a s) × (program_limit (program_of g a s) (length a.media) ≡ None) ×
    IsWellFormed p g (sequences a) (length a.media)
BuildsProgram g a s (Err (Limit fault)) = program_limit (program_of g a s) (length a.media) ≡ Some fault
BuildsProgram g a s (Err OutOfMemory) = Unit {0}
