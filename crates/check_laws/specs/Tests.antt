-- What is asked of a program, as tests, and the first of them that fails.
use Rattle.std.specs.Prelude.{
  ℕ,
  Bool,
  true,
  ◌&&◌,
  cond,
  nat_eq,
  nat_lt,
  List,
  [],
  ◌∷◌,
  length,
  Option,
  Some,
  None,
  is_none,
  slice_get,
}
use Rattle.std.specs.List.{list_all}
use Rattle.sequence_build_laws.specs.declared.Vertex.{Vertex}
use Rattle.sequence_build_laws.specs.declared.Seq.{Seq}
use Rattle.sequence_build_laws.specs.declared.Instr.{Instr}
use Rattle.sequence_build_laws.specs.declared.Instr.TheVariants.{Send, Recv, Sync}
use Rattle.sequence_build_laws.specs.declared.SeqCode.{SeqCode}
use Rattle.sequence_build_laws.specs.declared.Program.{Program}
use Rattle.sequence_build_laws.specs.Instructions.{Reader, readers, turn, medium, operator, len_of}
use Rattle.sequence_build_laws.specs.MicroSteps.{transfers}
use Rattle.sequence_build_laws.specs.Places.{calls, caller_of, ins_in, outs_in, communication_at, writer_of, written_at}
use Rattle.sequence_build_laws.specs.WellFormed.{operator_of}
use Rattle.program_walks.specs.Walks.{all_at, all_below, implies}
use Rattle.order_check.specs.Checked.{names_in, communicators, on_media, counts}
use Rattle.program_walks.specs.Buffers.{are_buffers}
use Rattle.order_check.specs.Calls.{called_at, is_before_twin, takes, gives}
use Rattle.order_check.specs.Carries.{are_kept}
use Rattle.program_walks.specs.Opened.{are_opened}
use Rattle.program_walks.specs.Acts.{is_only}
use Rattle.program_walks.specs.Pairs.{has_operator, is_written_between, is_read_between}
use Rattle.order_check.specs.Sequenced.{are_sequences}
use Rattle.order_check.specs.Transfers.{is_other, is_wait, is_sent, is_received, sender_of, receiver_of, buffer_at}
use Rattle.check_laws.specs.Items.{is_made}
use Rattle.check_laws.specs.Run.{Place, stuck}

-- the operators that an instruction names are there
abbrev pub operators_in : ℕ → Instr → Bool
operators_in operators (Send b o) = nat_lt o operators
operators_in operators (Recv b o) = nat_lt o operators
operators_in operators (Sync o q) = nat_lt o operators && nat_lt q operators
operators_in operators _ = true

-- A program is not well formed for one of these causes, which are tested in this
-- order; the last has the places at which the run stops.
pub data Cause : Type 0 where
  sequences_differ : Cause
  calls_wrong : Cause
  transfers_wrong : Cause
  buffers_wrong : Cause
  pairs_wrong : Cause
  prologue_wrong : Cause
  stuck_at : List Place → Cause

-- The cause for which a run is stuck at these places; none if there is no place.
abbrev pub stopped : List Place → Option Cause
stopped [] = None
stopped (x ∷ xs) = Some (stuck_at (x ∷ xs))

module _ (p : Program) where
  -- What the instruction names is among the pairs and buffers of the program and this
  -- many operations and operators.
  abbrev pub all_there : ℕ → ℕ → Instr → Bool
  all_there operations operators x = names_in p operations x && operators_in operators x

  -- The sequences are these, and what the instructions of all loops and prologues name
  -- exists, among this many operations and operators.
  abbrev pub are_named : ℕ → ℕ → List Seq → Bool
  are_named operations operators seqs =
      are_sequences p.seqs seqs &&
      list_all (λ (q : SeqCode). list_all (all_there operations operators) q.turn) p.seqs &&
      list_all (λ (q : SeqCode). list_all (all_there operations operators) q.prologue) p.seqs

  -- Instruction a of s is the only call of operation v, which is x, in a computation
  -- sequence, and before the call of its set half if v is a get half.
  abbrev pub is_called_at : ℕ → Vertex → ℕ → ℕ → Bool
  is_called_at v x s a = is_only p (calls v) s a && is_none (medium p s) && is_before_twin p s a x.kind x.twin

  -- The first call of operation v, which is x, is the only one, in a computation sequence, and
  -- before that of its set half if v is a get half; it is false if no loop calls v.
  abbrev pub is_called : ℕ → Vertex → Bool
  is_called v x = is_called_at v x (caller_of p v) (called_at p v)

  -- Each of these operations, by number, is called once, in a computation sequence,
  -- and a get half before its set half.
  abbrev pub are_called : List Vertex → Bool
  are_called vertices = all_at (λ v x. is_called v x) 0 vertices

  -- communication t of another communicator of the medium waits for this transfer
  abbrev pub waits_between : ℕ → ℕ → ℕ → ℕ → ℕ → SeqCode → Bool
  waits_between m t sender receiver s q =
      implies (is_other m sender receiver s q.seq.medium)
      (is_wait (operator p sender) (operator p receiver) true (slice_get q.turn (communication_at q.turn t)))

  -- Sequence s sends transfer t of medium m to the operator of r, r receives it, and
  -- all other communicators of the medium wait for it.
  abbrev pub is_moved_between : ℕ → ℕ → ℕ → ℕ → Bool
  is_moved_between m t s r = is_sent p m t s r && is_received p m t s r && all_at (waits_between m t s r) 0 p.seqs

  -- Transfer t of medium m goes from the sequence that sends it to the one that
  -- receives it, and all other communicators of the medium wait for it.
  abbrev pub is_moved : ℕ → ℕ → Bool
  is_moved m t = is_moved_between m t (sender_of p m t) (receiver_of p m t)

  -- Each transfer of this many media is sent, received, and waited for by all other
  -- communicators of its medium.
  abbrev pub are_moved : ℕ → Bool
  are_moved media = all_below (λ m. all_below (λ t. is_moved m t) (transfers p m)) media

  -- The communications are right for this many media: only communicators have them, each has one
  -- for each transfer of its medium, and each transfer is sent, received and waited for.
  abbrev pub are_transferred : ℕ → Bool
  are_transferred media = communicators p && on_media p media && counts p && are_moved media

  -- The buffers of instruction a of sequence s carry what operation v takes and gives.
  abbrev pub fits_at : List Vertex → ℕ → Vertex → ℕ → ℕ → Bool
  fits_at vertices v x s a =
      takes p vertices (ins_in (slice_get (turn p s) a)) x.guards x.ins &&
      gives p v (outs_in (slice_get (turn p s) a)) x.outs

  -- The buffers of the first call of operation v, which is x, carry what v takes and
  -- gives, in the lengths of these operations.
  abbrev pub fits : List Vertex → ℕ → Vertex → Bool
  fits vertices v x = fits_at vertices v x (caller_of p v) (called_at p v)

  -- In transfer t of medium m the received buffer is as long as the sent one.
  abbrev pub has_same_len : ℕ → ℕ → Bool
  has_same_len m t = nat_eq (len_of p (buffer_at p (receiver_of p m t) t)) (len_of p (buffer_at p (sender_of p m t) t))

  -- Each buffer is written once, its value comes from a call, the buffers of each call
  -- carry what it takes and gives, and transfers keep length and source.
  abbrev pub are_written : List Vertex → ℕ → Bool
  are_written vertices media =
      are_buffers p && all_below (is_made p (length p.buffers)) (length p.buffers) &&
      all_at (λ v x. fits vertices v x) 0 vertices
      && all_below (λ m. all_below (λ t. has_same_len m t) (transfers p m)) media && are_kept p media

  -- pair q is on its buffer's operator, and stands round the write and the reads
  abbrev pub guards : ℕ → Reader → Bool
  guards q x =
      nat_lt q (length p.pairs) && has_operator (slice_get p.pairs q) (operator_of p x.buffer) &&
      is_written_between p q (writer_of p x.buffer) (written_at p x.buffer) && is_read_between p q x.buffer x.sequence

  -- There is one pair for each reader of the program, in the order of the readers, and
  -- each is on its buffer's operator and round the write and the reads.
  abbrev pub are_guarded : Bool
  are_guarded = nat_eq (length p.pairs) (length (readers p)) && all_at guards 0 (readers p)

  -- the first cause for which the program is not well formed
  abbrev pub cause : List Vertex → List Seq → ℕ → ℕ → Option Cause
  cause vertices seqs operators media =
      cond (are_named (length vertices) operators seqs)
      (cond (are_called vertices)
      (cond (are_transferred media)
      (cond (are_written vertices media)
      (cond are_guarded
      (cond (are_opened p) (stopped (stuck p)) (Some prologue_wrong))
      (Some pairs_wrong))
      (Some buffers_wrong))
      (Some transfers_wrong))
      (Some calls_wrong))
      (Some sequences_differ)
