use Rattle.std.proofs.Common.{◌≡◌, Result, Ok, Err}
use Rattle.std.specs.Prelude.{IfOk}
use Rattle.sequence_build.specs.Answers.{IsProgram}
use Rattle.sequence_build.specs.declared.error.BuildError.{BuildError}
use Rattle.sequence_build_laws.specs.Archi.{Architecture}
use Rattle.sequence_build_laws.specs.Table.{entry_in}
use Rattle.sequence_build_laws.specs.declared.Program.{Program}
use Rattle.sequence_build_laws.specs.Graph.{Graph}
use Rattle.sequence_build_laws.specs.declared.Schedule.{Schedule}
use Rattle.sequence_build_laws.specs.Built.{program_of}
use Rattle.worked_calls.proofs.stages.build_program.Goals as goal

is_built : (g : Graph) (a : Architecture) (s : Schedule) (r : Result Program BuildError) → IfOk r (IsProgram g a s) → IfOk r (λ p. p ≡ program_of g a s)
is_built g a s (Ok p) h = h.is
is_built g a s (Err e) h = tt

pub build-requires : goal.build-requires
build-requires c = (entry_in c.args.site.now.durations, c.requires)

pub returns : goal.returns
returns c = is_built c.args.site.now.flat c.args.site.now.text.archi c.args.schedule.now c.build.result c.build.ensures.ok
