-- What makes a transfer right, as tests.
use Rattle.std.specs.Prelude.{ℕ, ◌+◌, Bool, true, false, ◌&&◌, not, nat_eq, nat_lt, List, Option, Some, None, slice_get}
use Rattle.executive_program.specs.declared.program.Instr.{Instr}
use Rattle.executive_program.specs.declared.program.Instr.TheVariants.{Send, Recv, Sync}
use Rattle.executive_program.specs.declared.program.SeqCode.{SeqCode}
use Rattle.executive_program.specs.declared.program.Program.{Program}
use Rattle.executive_program.specs.Instructions.{len_of, medium, operator, turn}
use Rattle.executive_program.specs.MicroSteps.{is_on, transfers}
use Rattle.executive_program.specs.Places.{buffer_in, communication_at, receives_at, sends_at, sequence_where}
use Rattle.executive_program.specs.WellFormed.{place_in}
use Rattle.program_walks.specs.Walks.{all_at, all_below, implies}

-- There is an instruction, and it is a send to operator o, of any buffer.
abbrev pub is_send_to : ℕ → Option Instr → Bool
is_send_to o (Some (Send b q)) = nat_eq q o
is_send_to o _ = false

-- There is an instruction, and it is a receive from operator o, into any buffer.
abbrev pub is_receive_from : ℕ → Option Instr → Bool
is_receive_from o (Some (Recv b q)) = nat_eq q o
is_receive_from o _ = false

-- a communication between these operators, if there is one, and then this holds
abbrev pub is_wait : ℕ → ℕ → Bool → Option Instr → Bool
is_wait from to holds None = true
is_wait from to holds (Some (Sync a b)) = nat_eq a from && nat_eq b to && holds
is_wait from to holds (Some _) = false

-- sequence s is a communicator of medium m and none of these two
abbrev pub is_other : ℕ → ℕ → ℕ → ℕ → Option ℕ → Bool
is_other m sender receiver s found = is_on m found && not (nat_eq s sender) && not (nat_eq s receiver)

module _ (p : Program) where
  -- Transfer t of medium m is sent by this sequence, the first communicator of m that
  -- sends as its communication t; it is the number of sequences if none does.
  abbrev pub sender_of : ℕ → ℕ → ℕ
  sender_of m t = sequence_where p (sends_at p m t)

  -- Transfer t of medium m is received by this sequence, the first communicator of m that
  -- receives as its communication t; it is the number of sequences if none does.
  abbrev pub receiver_of : ℕ → ℕ → ℕ
  receiver_of m t = sequence_where p (receives_at p m t)

  -- the place of communication t of sequence s, and its buffer
  abbrev pub stands_at : ℕ → ℕ → ℕ
  stands_at s t = communication_at (turn p s) t

  -- Communication t of sequence s sends or receives this buffer; it is 0 for a wait,
  -- and if there is no such communication.
  abbrev pub buffer_at : ℕ → ℕ → ℕ
  buffer_at s t = buffer_in (slice_get (turn p s) (stands_at s t))

  -- Sequence s is a communicator of medium m, and its communication t is a send to the
  -- operator of sequence r.
  abbrev pub is_sent : ℕ → ℕ → ℕ → ℕ → Bool
  is_sent m t s r = is_on m (medium p s) && is_send_to (operator p r) (slice_get (turn p s) (stands_at s t))

  -- Sequence r is a communicator of medium m, and its communication t is a receive
  -- from the operator of sequence s.
  abbrev pub is_received : ℕ → ℕ → ℕ → ℕ → Bool
  is_received m t s r = is_on m (medium p r) && is_receive_from (operator p s) (slice_get (turn p r) (stands_at r t))

  module _ (order : List ℕ) where
    -- the place in the order of communication t of sequence s
    abbrev pub place_of : ℕ → ℕ → ℕ
    place_of s t = place_in order s (stands_at s t)

    -- instruction a of sequence s stands after communication t of the receiver
    abbrev pub is_later : ℕ → ℕ → ℕ → ℕ → Bool
    is_later t receiver s a = nat_lt (place_of receiver t) (place_in order s a)

    -- instruction a of the loop of s waits for the transfer, if it is there
    abbrev pub waits_at : ℕ → ℕ → ℕ → ℕ → List Instr → ℕ → Bool
    waits_at t sender receiver s list a =
        is_wait (operator p sender) (operator p receiver) (is_later t receiver s a) (slice_get list a)

    -- communication t of another communicator of the medium waits for the transfer
    abbrev pub waits : ℕ → ℕ → ℕ → ℕ → ℕ → SeqCode → Bool
    waits m t sender receiver s q =
        implies (is_other m sender receiver s q.seq.medium)
        (waits_at t sender receiver s q.turn (communication_at q.turn t))

    -- the receive stands before the next send
    abbrev pub is_before_next : ℕ → ℕ → ℕ → Bool
    is_before_next m t receiver =
        implies (nat_lt (t + 1) (transfers p m)) (nat_lt (place_of receiver t) (place_of (sender_of m (t + 1)) (t + 1)))

    -- Sequences s and r send and receive transfer t of medium m in one length and in this order,
    -- all others of m wait for it after the receive, and the next send comes after the receive.
    abbrev pub is_transfer_between : ℕ → ℕ → ℕ → ℕ → Bool
    is_transfer_between m t s r =
        is_sent m t s r && is_received m t s r && all_at (waits m t s r) 0 p.seqs &&
        nat_lt (place_of s t) (place_of r t) && is_before_next m t r &&
        nat_eq (len_of p (buffer_at r t)) (len_of p (buffer_at s t))

    -- Transfer t of medium m goes, in the right order and length, from the sequence
    -- that sends it to the one that receives it.
    abbrev pub is_transfer : ℕ → ℕ → Bool
    is_transfer m t = is_transfer_between m t (sender_of m t) (receiver_of m t)

    -- of each transfer of this many media
    abbrev pub are_transfers : ℕ → Bool
    are_transfers media = all_below (λ m. all_below (λ t. is_transfer m t) (transfers p m)) media
