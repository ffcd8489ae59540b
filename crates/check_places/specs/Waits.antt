-- What the sequences wait for at which a run stops.
use Rattle.std.specs.Prelude.{ℕ, List, map, Option, Some, None, slice_get}
use Rattle.sequence_build_laws.specs.declared.Instr.{Instr}
use Rattle.sequence_build_laws.specs.declared.Program.{Program}
use Rattle.sequence_build_laws.specs.Instructions.{turn}
use Rattle.check_laws.specs.Run.{awaited}
use Rattle.check_laws.specs.Run as run
use Rattle.macro_check.specs.Awaiting.{stand_or}
use Rattle.program_walks.specs.declared.acts.Stand.{Stand}
use Rattle.check_places.specs.declared.place.Part.TheVariants.{Loop}
use Rattle.check_places.specs.declared.place.Spot.{Spot}
use Rattle.check_places.specs.declared.place.Waiting.{Waiting}

-- The instruction of a loop that is meant, and None if there is none.
abbrev pub spot_of : Option Stand → Option Spot
spot_of None = None
spot_of (Some y) = Some (record { part = Loop; sequence = y.sequence; at = y.at })

module _ (p : Program) where
  -- The instruction for which instruction a of the loop of sequence s waits, and None if it waits
  -- for none or is not there.
  abbrev pub awaits : ℕ → ℕ → Option Instr → Option Spot
  awaits s a None = None
  awaits s a (Some x) = spot_of (stand_or (awaited p s a x))

  -- The loop that has come to this instruction and is not at its end, with the instruction for
  -- which it waits.
  abbrev pub waiting : run.Place → Waiting
  waiting y = record {
    sequence = y.sequence;
    at = y.at;
    awaits = awaits y.sequence y.at (slice_get (turn p y.sequence) y.at);
  }

  -- What the sequences at these places wait for, in their order.
  abbrev pub waitings : List run.Place → List Waiting
  waitings ys = map waiting ys
