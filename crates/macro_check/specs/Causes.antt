-- The causes of a refusal, and the first that a program lacks.
use Rattle.std.specs.Prelude.{ℕ, ◌<◌, ◌⊎◌, cond, List, map, length, Option, Some, None}
use Rattle.sequence_build_laws.specs.declared.Vertex.{Vertex}
use Rattle.sequence_build_laws.specs.declared.Instr.TheVariants.{Suc1, Pre1, Send, Recv}
use Rattle.sequence_build_laws.specs.declared.Program.{Program}
use Rattle.sequence_build_laws.specs.MicroSteps.{first_of}
use Rattle.sequence_build_laws.specs.WellFormed.{Stands}
use Rattle.program_walks.specs.Opened.{are_opened}
use Rattle.check_laws.specs.Run.{stuck}
use Rattle.check_laws.specs.Tests.{
  Cause,
  sequences_differ,
  calls_wrong,
  transfers_wrong,
  buffers_wrong,
  pairs_wrong,
  prologue_wrong,
  stuck_at,
  stopped,
  are_called,
  are_transferred,
  are_written,
  are_guarded,
}
use Rattle.check_cause.specs.declared.cause.CheckCause.{CheckCause}
use Rattle.check_cause.specs.declared.cause.CheckCause.TheVariants.{
  Sequences,
  Calls,
  Transfers,
  Buffers,
  Pairs,
  Prologue,
  Stuck,
}
use Rattle.macro_check.specs.declared.cause.CheckError.{CheckError}
use Rattle.macro_check.specs.declared.cause.CheckError.TheVariants.{Refused, OutOfMemory}
use Rattle.macro_check.specs.Awaiting.{place_of}

-- A cause that the code has found is this cause of the definitions, with the same places.
abbrev pub cause_of : CheckCause → Cause
cause_of Sequences = sequences_differ
cause_of Calls = calls_wrong
cause_of Transfers = transfers_wrong
cause_of Buffers = buffers_wrong
cause_of Pairs = pairs_wrong
cause_of Prologue = prologue_wrong
cause_of (Stuck places) = stuck_at (map place_of places)

abbrev pub told : Option CheckCause → Option Cause
told None = None
told (Some c) = Some (cause_of c)

-- a refusal for a cause of which this holds; want of memory says nothing
abbrev pub Refuses : (Cause → Type 0) → CheckError → Type 0
Refuses P (Refused c) = P (cause_of c)
Refuses P OutOfMemory = Unit {0}

-- what the instructions name that later checks look up is there
pub record AreThere (p : Program) : Type 0 where
  pub pairs : (s a q : ℕ) → Stands p s a (Suc1 q) ⊎ Stands p s a (Pre1 q) → q < length p.pairs
  pub buffers : (s a b o : ℕ) → Stands p s a (Send b o) ⊎ Stands p s a (Recv b o) → b < length p.buffers

module _ (p : Program) where
  -- the first that is missing of what is asked whatever the order, where the sequences and the names are right
  abbrev pub lack : List Vertex → ℕ → Option Cause
  lack vertices media =
      cond (are_called p vertices)
      (cond (are_transferred p media)
      (cond (are_written p vertices media)
      (cond (are_guarded p)
      (cond (are_opened p) None (Some prologue_wrong))
      (Some pairs_wrong))
      (Some buffers_wrong))
      (Some transfers_wrong))
      (Some calls_wrong)

  -- and then where the run stops
  abbrev pub fault : List Vertex → ℕ → Option Cause
  fault vertices media = first_of (lack vertices media) (stopped (stuck p))
