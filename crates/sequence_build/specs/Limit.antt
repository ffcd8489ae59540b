-- The limits that refuse a program.
use Rattle.std.specs.Prelude.{ℕ, ◌-◌, ◌^◌, min, Option, None}
use Rattle.syn_base.specs.declared.limits.LimitKind.TheVariants.{Words, MicroSteps}
use Rattle.syn_base.specs.declared.limits.LimitFault.{LimitFault}
use Rattle.syn_base.specs.Limits.{above}
use Rattle.sequence_build_laws.specs.declared.Program.{Program}
use Rattle.sequence_build_laws.specs.MicroSteps.{words}
use Rattle.sequence_build_laws.specs.Steps.{all_turns}

-- The words of the table, on this many media, are above their bound, or else the micro-steps of
-- one reaction of all sequences. Micro-steps are told up to the last value of their type.
abbrev pub program_limit : Program → ℕ → Option LimitFault
program_limit p media = above Words (words p media) (above MicroSteps (min (all_turns p) (2 ^ 128 - 1)) None)
