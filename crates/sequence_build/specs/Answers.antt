-- What `build` answers.
use Rattle.std.specs.Prelude.{◌≡◌, ℕ, true, length, Option, Some, None}
use Rattle.sequence_build_laws.specs.Graph.{Graph}
use Rattle.sequence_build_laws.specs.Archi.{Architecture}
use Rattle.sequence_build_laws.specs.Sequences.{sequences}
use Rattle.sequence_build_laws.specs.declared.Schedule.{Schedule}
use Rattle.sequence_build_laws.specs.ScheduleValid.{is_valid}
use Rattle.sequence_build_laws.specs.declared.Program.{Program}
use Rattle.sequence_build_laws.specs.WellFormed.{IsOrder}
use Rattle.sequence_build_laws.specs.Built.{program_of, order_of}
use Rattle.sequence_build.specs.declared.error.BuildError.{BuildError}
use Rattle.sequence_build.specs.declared.error.BuildError.TheVariants.{Limit, OutOfMemory}
use Rattle.sequence_build.specs.Limit.{program_limit}

module _ (g : Graph) (a : Architecture) (s : Schedule) where
  -- the schedule is valid for some durations
  abbrev pub IsValid : Type 0
  IsValid = (ticks : ℕ → ℕ → Option ℕ) × (is_valid g a ticks s ≡ true)

  -- it is the program of the schedule, which no limit refuses and which is well formed by its serial order
  pub record IsProgram (p : Program) : Type 0 where
    pub is : p ≡ program_of g a s
    pub within : program_limit p (length a.media) ≡ None
    pub formed : IsOrder p g (sequences a) (length a.media) (order_of g a s)

  -- the limit is the one that refuses the program
  abbrev pub IsRefusal : BuildError → Type 0
  IsRefusal (Limit fault) = program_limit (program_of g a s) (length a.media) ≡ Some fault
  IsRefusal OutOfMemory = Unit {0}
