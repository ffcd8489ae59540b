-- What the tables of a program hold.
use Rattle.std.specs.Prelude.{
  ◌≡◌,
  ℕ,
  zero,
  suc,
  ◌<◌,
  Bool,
  true,
  ◌&&◌,
  not,
  nat_eq,
  List,
  length,
  Option,
  Some,
  None,
  slice_get,
}
use Rattle.program_tables.specs.declared.mark_table.Mark.{Mark}
use Rattle.program_tables.specs.MarkRows.{row}
use Rattle.sequence_build_laws.specs.Instructions.{operator, turn}
use Rattle.sequence_build_laws.specs.Places.{communication_at}
use Rattle.sequence_build_laws.specs.declared.Program.{Program}
use Rattle.program_walks.specs.Walks.{implies}
use Rattle.order_check.specs.Transfers.{is_wait}
use Rattle.program_tables.specs.declared.crossings.Crossing.{Crossing}
use Rattle.program_tables.specs.declared.roles.Role.TheVariants.{Called, Written, Read}
use Rattle.program_tables.specs.Communications.{communicators_of, numbers_of, places_of}
use Rattle.program_tables.specs.Crossings.{crossings}
use Rattle.program_tables.specs.Marks.{marks_of}
use Rattle.program_tables.specs.Readings.{ArePairs, readings}
use Rattle.program_tables.specs.declared.readings.Reading.{Reading}
use Rattle.check_laws.specs.Tests.{guards}
use Rattle.macro_check.specs.declared.tables.Tables.{Tables}

-- The tables have, for their numbers of media and operations, the program's communications,
-- communicators and transfers, the places at which it names numbers, and its readers.
pub record AreTables (p : Program) (t : Tables) : Type 0 where
  pub numbers : t.numbers.items ≡ numbers_of p
  pub places : t.places.items ≡ places_of p
  pub communicators : (m : ℕ) → m < t.media → row t.communicators m ≡ communicators_of p m
  pub crossings : t.crossings.items ≡ crossings p t.media
  pub calls : (v : ℕ) → v < t.operations → row t.calls v ≡ marks_of p Called v
  pub writes : (b : ℕ) → b < length p.buffers → row t.writes b ≡ marks_of p Written b
  pub reads : (b : ℕ) → b < length p.buffers → row t.reads b ≡ marks_of p Read b
  pub pairs : ArePairs p t.pairs
  pub readings : t.readings.items ≡ readings p

abbrev pub in_row : Option (List Crossing) → ℕ → Option Crossing
in_row None t = None
in_row (Some row) t = slice_get row t

-- transfer t of a medium, in the table of transfers
abbrev pub crossing_at : List (List Crossing) → Option ℕ → ℕ → Option Crossing
crossing_at rows None t = None
crossing_at rows (Some m) t = in_row (slice_get rows m) t

-- the transfer before it
abbrev pub crossing_before : List (List Crossing) → Option ℕ → ℕ → Option Crossing
crossing_before rows m zero = None
crossing_before rows m (suc t) = crossing_at rows m t

-- a pair guards the buffer of a reading for its sequence
abbrev pub guards_by : Program → ℕ → Reading → Bool
guards_by p q r = guards p q (record { buffer = r.buffer; sequence = r.sequence })

module _ (p : Program) (t : ℕ) where
  -- communication t of sequence s waits for a transfer between these two
  abbrev pub waits_in : ℕ → ℕ → ℕ → Bool
  waits_in sender receiver s =
      is_wait (operator p sender) (operator p receiver) true (slice_get (turn p s) (communication_at (turn p s) t))

  -- and so it does at a place whose sequence is neither
  abbrev pub other_waits : ℕ → ℕ → Mark → Bool
  other_waits sender receiver x =
      implies (not (nat_eq x.sequence sender) && not (nat_eq x.sequence receiver)) (waits_in sender receiver x.sequence)
