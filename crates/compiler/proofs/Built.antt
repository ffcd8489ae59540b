-- What was built of a schedule is its program, within its limits and well formed.
use Rattle.std.proofs.Common.{◌≡◌, length, Result, Ok, Err, subst}
use Rattle.std.specs.Prelude.{IfOk, IfErr, None}
use Rattle.sequence_build_laws.specs.Archi.{Architecture as Archi}
use Rattle.sequence_build_laws.specs.Built.{order_of}
use Rattle.sequence_build_laws.specs.Graph.{Graph}
use Rattle.sequence_build_laws.specs.declared.Program.{Program}
use Rattle.sequence_build_laws.specs.declared.Schedule.{Schedule}
use Rattle.sequence_build.specs.Answers.{IsProgram, IsRefusal}
use Rattle.sequence_build.specs.Limit.{program_limit}
use Rattle.sequence_build.specs.declared.error.BuildError.{BuildError}
use Rattle.sequence_build.specs.declared.error.BuildError.TheVariants.{Limit, OutOfMemory}
use Rattle.compiler.specs.Builds.{BuildsProgram}

pub built_so : (g : Graph) (a : Archi) (s : Schedule) (r : Result Program BuildError) → IfOk r (IsProgram g a s) → IfErr r (IsRefusal g a s) → BuildsProgram g a s r
built_so g a s (Ok p) ok err = (ok.is, subst (λ (q : Program). program_limit q (length a.media) ≡ None) ok.is ok.within, (order_of g a s, ok.formed))
built_so g a s (Err (Limit fault)) ok err = err
built_so g a s (Err OutOfMemory) ok err = tt
