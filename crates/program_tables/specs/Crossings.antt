-- The transfers of each medium as a table.
use Rattle.std.specs.Prelude.{ℕ, Bool, cond, List, [], ◌∷◌, map, slice_get}
use Rattle.std.specs.List.{range_with_len}
use Rattle.program_tables.specs.declared.mark_table.Mark.{Mark}
use Rattle.executive_program.specs.declared.program.Program.{Program}
use Rattle.executive_program.specs.Instructions.{turn}
use Rattle.executive_program.specs.MicroSteps.{transfers}
use Rattle.executive_program.specs.Places.{
  buffer_in,
  communication_at,
  is_receive,
  is_send,
  receives_at,
  sends_at,
  sequence_where,
}
use Rattle.program_tables.specs.declared.crossings.Crossing.{Crossing}

-- the first of these places whose sequence passes, or n
abbrev pub first_where : ℕ → (ℕ → Bool) → List Mark → ℕ
first_where n test [] = n
first_where n test (m ∷ ms) = cond (test m.sequence) m.sequence (first_where n test ms)

module _ (p : Program) where
  -- communication t of sequence s is a send, or a receive
  abbrev pub sends_in : ℕ → ℕ → Bool
  sends_in t s = is_send (slice_get (turn p s) (communication_at (turn p s) t))

  abbrev pub receives_in : ℕ → ℕ → Bool
  receives_in t s = is_receive (slice_get (turn p s) (communication_at (turn p s) t))

  -- communication t of these two sequences
  abbrev pub crossing_by : ℕ → ℕ → ℕ → Crossing
  crossing_by t s r = record {
    sender = s;
    send_at = communication_at (turn p s) t;
    receiver = r;
    receive_at = communication_at (turn p r) t;
    sent = buffer_in (slice_get (turn p s) (communication_at (turn p s) t));
    received = buffer_in (slice_get (turn p r) (communication_at (turn p r) t));
  }

  -- transfer t of medium m
  abbrev pub crossing : ℕ → ℕ → Crossing
  crossing m t = crossing_by t (sequence_where p (sends_at p m t)) (sequence_where p (receives_at p m t))

  -- These are the transfers of medium m, by number.
  abbrev pub crossings_on : ℕ → List Crossing
  crossings_on m = map (crossing m) (range_with_len 0 (transfers p m))

  -- of each of this many media
  abbrev pub crossings : ℕ → List (List Crossing)
  crossings media = map crossings_on (range_with_len 0 media)
