-- The check of a program of any origin, as it is told.
use Rattle.std.specs.Prelude.{map, length, Option, option_map}
use Rattle.check_laws.specs.Run.{Place}
use Rattle.check_laws.specs.Tests.{
  Cause,
  cause,
  sequences_differ,
  calls_wrong,
  transfers_wrong,
  buffers_wrong,
  pairs_wrong,
  prologue_wrong,
  stuck_at,
}
use Rattle.self_timed.specs.Graph.{Graph}
use Rattle.self_timed.specs.Archi.{Architecture}
use Rattle.self_timed.specs.Sequences.{sequences}
use Rattle.self_timed.specs.declared.Program.{Program}
use Rattle.command_status.specs.declared.CheckCause.{CheckCause}
use Rattle.command_status.specs.declared.CheckCause.TheVariants.{
  Sequences,
  Calls,
  Transfers,
  Buffers,
  Pairs,
  Prologue,
  Stuck,
}
use Rattle.command_status.specs.declared.Stop.{Stop}

-- A sequence that is not at its end, with the place of its next instruction, as a status has it.
abbrev pub stop_of : Place → Stop
stop_of y = record { sequence = y.sequence; at = y.at }

-- The cause as a status has it.
abbrev pub told : Cause → CheckCause
told sequences_differ = Sequences
told calls_wrong = Calls
told transfers_wrong = Transfers
told buffers_wrong = Buffers
told pairs_wrong = Pairs
told prologue_wrong = Prologue
told (stuck_at places) = Stuck (map stop_of places)

-- the first that a program lacks to be well formed
abbrev pub lacking : Graph → Architecture → Program → Option CheckCause
lacking g a p = option_map told (cause p g.vertices (sequences a) (length a.operators) (length a.media))
