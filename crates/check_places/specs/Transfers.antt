-- Where transfers are wrong.
use Rattle.std.specs.Prelude.{ℕ, nat_lt, length, Option, None, slice_get}
use Rattle.sequence_build_laws.specs.declared.SeqCode.{SeqCode}
use Rattle.sequence_build_laws.specs.declared.Program.{Program}
use Rattle.sequence_build_laws.specs.Instructions.{operator, turn}
use Rattle.sequence_build_laws.specs.MicroSteps.{first_of, transfers}
use Rattle.sequence_build_laws.specs.Places.{communication_at}
use Rattle.program_tables.specs.declared.crossings.Crossing.{Crossing}
use Rattle.program_tables.specs.Crossings.{crossing}
use Rattle.order_check.specs.Checked.{is_at_medium, is_counted, is_medium}
use Rattle.order_check.specs.Transfers.{is_receive_from, is_send_to}
use Rattle.check_laws.specs.Tests.{waits_between}
use Rattle.check_places.specs.declared.place.Place.{Place}
use Rattle.check_places.specs.declared.place.Rule.TheVariants.{
  OutsideThread,
  UnknownMedium,
  UnequalTransfers,
  NotSent,
  NotReceived,
  SentElsewhere,
  ReceivedElsewhere,
  NotAwaited,
}
use Rattle.check_places.specs.declared.place.Subject.TheVariants.{Sequence, Transfer}
use Rattle.check_places.specs.First.{broken, first_below, first_from, in_loop, unless}

-- the first communication of a sequence that is no communicator
abbrev pub outside_place : ℕ → SeqCode → Option Place
outside_place s q =
    unless (is_at_medium q.seq.medium q.turn)
    (broken OutsideThread (Sequence s) (in_loop s (communication_at q.turn 0)))

-- Sequence s, without an instruction, if it is at a medium that is not one of this many, and None
-- otherwise.
abbrev pub medium_place : ℕ → ℕ → SeqCode → Option Place
medium_place media s q = unless (is_medium media q.seq.medium) (broken UnknownMedium (Sequence s) None)

module _ (p : Program) where
  -- Sequence s, without an instruction, if it is at a medium and its loop has more or fewer
  -- communications than the medium has transfers, and None otherwise.
  abbrev pub count_place : ℕ → SeqCode → Option Place
  count_place s q = unless (is_counted p q.seq.medium q.turn) (broken UnequalTransfers (Sequence s) None)

  -- the communication of another communicator of the medium that does not wait
  abbrev pub awaited_place : ℕ → ℕ → Crossing → ℕ → SeqCode → Option Place
  awaited_place m t c s q =
      unless (waits_between p m t c.sender c.receiver s q)
      (broken NotAwaited (Transfer m t) (in_loop s (communication_at q.turn t)))

  -- Transfer t of medium m, which these sequences send and receive: sent, received, each to and from the other's
  -- operator, and awaited by all others.
  abbrev pub moved_place_by : ℕ → ℕ → Crossing → Option Place
  moved_place_by m t c =
      first_of (unless (nat_lt c.sender (length p.seqs)) (broken NotSent (Transfer m t) None))
      (first_of (unless (nat_lt c.receiver (length p.seqs)) (broken NotReceived (Transfer m t) None))
      (first_of
      (unless (is_send_to (operator p c.receiver) (slice_get (turn p c.sender) c.send_at))
      (broken SentElsewhere (Transfer m t) (in_loop c.sender c.send_at)))
      (first_of
      (unless (is_receive_from (operator p c.sender) (slice_get (turn p c.receiver) c.receive_at))
      (broken ReceivedElsewhere (Transfer m t) (in_loop c.receiver c.receive_at)))
      (first_from (awaited_place m t c) 0 p.seqs))))

  -- The first thing that is wrong with how transfer t of medium m is sent, received and waited for,
  -- and None if nothing is.
  abbrev pub moved_place : ℕ → ℕ → Option Place
  moved_place m t = moved_place_by m t (crossing p m t)

  -- the first of a medium, and of this many media
  abbrev pub first_on : (ℕ → ℕ → Option Place) → ℕ → Option Place
  first_on place m = first_below (place m) (transfers p m)

  -- The first place that is given for a transfer of one of this many media, by medium and then by
  -- transfer, and None if there is none.
  abbrev pub first_over : (ℕ → ℕ → Option Place) → ℕ → Option Place
  first_over place media = first_below (first_on place) media

  -- communications outside threads, unknown media, threads with more or fewer than others, and then single transfers
  abbrev pub transfers_place : ℕ → Option Place
  transfers_place media =
      first_of (first_from outside_place 0 p.seqs)
      (first_of (first_from (medium_place media) 0 p.seqs)
      (first_of (first_from count_place 0 p.seqs) (first_over moved_place media)))
