-- The micro-steps of a program's sequences, by the table of instructions.
-- Semaphores 2q and 2q + 1 are the empty and the full one of pair q.
use Rattle.std.specs.Prelude.{
  ℕ,
  zero,
  suc,
  ◌+◌,
  ◌*◌,
  Bool,
  true,
  false,
  cond,
  max,
  nat_eq,
  nat_lt,
  List,
  [],
  ◌∷◌,
  ◌++◌,
  length,
  take,
  Option,
  Some,
  None,
  slice_get,
}
use Rattle.std.specs.List.{count_by}
use Rattle.interleavings.specs.System.{Micro, take as taken, see, sub, signal, await, advance, load, store}
use Rattle.interleavings.specs.Owners.{sum_below}
use Rattle.interleavings.specs.Sites.{Code}
use Rattle.executive_program.specs.declared.program.Instr.{Instr}
use Rattle.executive_program.specs.declared.program.Instr.TheVariants.{Suc0, Suc1, Pre0, Pre1, Call, Send, Recv, Sync}
use Rattle.executive_program.specs.declared.program.SeqCode.{SeqCode}
use Rattle.executive_program.specs.declared.program.Program.{Program}
use Rattle.executive_program.specs.Blocks.{blocks}
use Rattle.executive_program.specs.Instructions.{
  is_communication,
  turn,
  prologue,
  medium,
  number_or,
  len_of,
  depth_of,
  pair_depth,
  len_by,
}

-- This is the first value if there is one, and otherwise the second, which may be none too.
abbrev pub first_of : {A : Type 0} → Option A → Option A → Option A
first_of (Some x) y = Some x
first_of None y = y

-- the buffer of the t-th communication of these instructions, if that is a send
abbrev pub sent_in : List Instr → ℕ → Option ℕ
sent_in [] t = None
sent_in (Send b q ∷ xs) zero = Some b
sent_in (Send b q ∷ xs) (suc t) = sent_in xs t
sent_in (Recv b q ∷ xs) zero = None
sent_in (Recv b q ∷ xs) (suc t) = sent_in xs t
sent_in (Sync p q ∷ xs) zero = None
sent_in (Sync p q ∷ xs) (suc t) = sent_in xs t
sent_in (Suc0 q ∷ xs) t = sent_in xs t
sent_in (Suc1 q ∷ xs) t = sent_in xs t
sent_in (Pre0 q ∷ xs) t = sent_in xs t
sent_in (Pre1 q ∷ xs) t = sent_in xs t
sent_in (Call v ins outs ∷ xs) t = sent_in xs t

-- It is true if the given medium is m, and false if it is another one or none is given.
abbrev pub is_on : ℕ → Option ℕ → Bool
is_on m None = false
is_on m (Some n) = nat_eq n m

-- the communications of the first communicator of a medium; in a well-formed program each of them has this many
abbrev pub transfers_on : List SeqCode → ℕ → ℕ
transfers_on [] m = 0
transfers_on (q ∷ qs) m = cond (is_on m q.seq.medium) (count_by is_communication q.turn) (transfers_on qs m)

-- the buffer that transfer t of medium m sends
abbrev pub sent_by : List SeqCode → ℕ → ℕ → Option ℕ
sent_by [] m t = None
sent_by (q ∷ qs) m t = first_of (cond (is_on m q.seq.medium) (sent_in q.turn t) None) (sent_by qs m t)

-- a take of semaphore x, where the pair's buffer has this many places:
-- with one place it is one micro-step, with more a look comes first
abbrev pub takes : ℕ → ℕ → List Micro
takes depth x = cond (nat_eq depth 1) (taken x ∷ []) (see x ∷ sub x ∷ [])

module _ (p : Program) where
  -- Medium m has this many transfers in a reaction, counted at its first communicator,
  -- and 0 if it has no communicator.
  abbrev pub transfers : ℕ → ℕ
  transfers m = transfers_on p.seqs m

  -- Transfer t of medium m sends this buffer; it is none if communication t of no
  -- communicator of m is a send.
  abbrev pub sent : ℕ → ℕ → Option ℕ
  sent m t = sent_by p.seqs m t

  -- Transfer t of medium m carries this many elements, as many as the buffer that is
  -- sent has, and 0 if none is sent.
  abbrev pub transfer_len : ℕ → ℕ → ℕ
  transfer_len m t = len_by p (sent m t)

  -- How often transfer t of medium m uses element j of its wire: once, or not at all.
  abbrev pub uses : ℕ → ℕ → ℕ → ℕ
  uses m j t = cond (nat_lt j (transfer_len m t)) 1 0

  -- Of the transfers of medium m before transfer t, this many use element j of its
  -- wire in a reaction, so that it is the number of t's own access.
  abbrev pub access : ℕ → ℕ → ℕ → ℕ
  access m j t = sum_below (uses m j) t

  -- An instruction sends this many elements, as many as its buffer has if it is a send, and 0
  -- otherwise.
  abbrev pub sent_len : Instr → ℕ
  sent_len (Send b q) = len_of p b
  sent_len _ = 0

  -- The longest buffer that these instructions send has this many elements; it is 0 if
  -- they send none.
  abbrev pub longest_sent : List Instr → ℕ
  longest_sent [] = 0
  longest_sent (x ∷ xs) = max (sent_len x) (longest_sent xs)

  -- The longest buffer that this sequence sends over medium m in its loop has this
  -- many elements; it is 0 if it sends none, or is no communicator of m.
  abbrev pub longest_in : ℕ → SeqCode → ℕ
  longest_in m q = cond (is_on m q.seq.medium) (longest_sent q.turn) 0

  -- The longest buffer that any of these sequences sends over medium m has this many
  -- elements; it is 0 if none sends over it.
  abbrev pub longest_on : List SeqCode → ℕ → ℕ
  longest_on [] m = 0
  longest_on (q ∷ qs) m = max (longest_in m q) (longest_on qs m)

  -- The wire of medium m has this many elements, enough for the longest buffer that is
  -- sent over m, and 0 if nothing is sent.
  abbrev pub wire_len : ℕ → ℕ
  wire_len m = longest_on p.seqs m

  -- elements are numbered by buffer and number, and then by medium and number; each has the places of its buffer
  abbrev pub element_of : ℕ → ℕ → ℕ
  element_of b j = sum_below (len_of p) b + j

  -- The buffers have this many elements together, each element counted once for all
  -- its places; the elements of wires are numbered from here on.
  abbrev pub buffer_elements : ℕ
  buffer_elements = sum_below (len_of p) (length p.buffers)

  -- Element j of the wire of medium m has this number among all elements, after those
  -- of the buffers and of the wires of lower media.
  abbrev pub wire_of : ℕ → ℕ → ℕ
  wire_of m j = buffer_elements + (sum_below wire_len m + j)

  -- Element j of buffer b is loaded by one micro-step; its access is 0, since it is
  -- stored once in a reaction.
  abbrev pub load_at : ℕ → ℕ → List Micro
  load_at b j = load (element_of b j) 0 ∷ []

  -- Element j of buffer b is stored by one micro-step, the only store of it in a
  -- reaction, so access 0.
  abbrev pub store_at : ℕ → ℕ → List Micro
  store_at b j = store (element_of b j) 0 ∷ []

  -- These are the loads of all elements of an input's buffer, in order; without a
  -- buffer there are none.
  abbrev pub loads_of : Option ℕ → List Micro
  loads_of None = []
  loads_of (Some b) = blocks (load_at b) (len_of p b)

  -- These are the stores of all elements of an output's buffer, in order; without a
  -- buffer there are none.
  abbrev pub stores_of : Option ℕ → List Micro
  stores_of None = []
  stores_of (Some b) = blocks (store_at b) (len_of p b)

  -- These are the loads of input k of a call that reads these buffers, and none if it
  -- has no input k.
  abbrev pub loads_at : List ℕ → ℕ → List Micro
  loads_at ins k = loads_of (slice_get ins k)

  -- These are the stores of output k of a call that writes these buffers, and none if
  -- it has no output k.
  abbrev pub stores_at : List ℕ → ℕ → List Micro
  stores_at outs k = stores_of (slice_get outs k)

  -- Transfer t of medium m sends element j of buffer b by a load from the buffer and a
  -- store into the wire.
  abbrev pub send_at : ℕ → ℕ → ℕ → ℕ → List Micro
  send_at m t b j = load (element_of b j) 0 ∷ store (wire_of m j) (access m j t) ∷ []

  -- Transfer t of medium m receives element j of buffer b by a load from the wire and
  -- a store into the buffer.
  abbrev pub receive_at : ℕ → ℕ → ℕ → ℕ → List Micro
  receive_at m t b j = load (wire_of m j) (access m j t) ∷ store (element_of b j) 0 ∷ []

  -- The micro-steps of an instruction on medium m, where as many communications of the loop stand before it. Each
  -- transfer is two halves of the medium's turn, and a communication waits for its own, or for the end of both.
  abbrev pub micros_of : ℕ → ℕ → Instr → List Micro
  micros_of m before (Suc0 pair) = takes (pair_depth p pair) (2 * pair)
  micros_of m before (Suc1 pair) = takes (pair_depth p pair) (2 * pair + 1)
  micros_of m before (Pre0 pair) = signal (2 * pair) ∷ []
  micros_of m before (Pre1 pair) = signal (2 * pair + 1) ∷ []
  micros_of m before (Call vertex ins outs) =
      blocks (loads_at ins) (length ins) ++ blocks (stores_at outs) (length outs)
  micros_of m before (Send buffer to) = await m (2 * before) true ∷
      (blocks (send_at m before buffer) (len_of p buffer) ++ advance m (2 * before) ∷ [])
  micros_of m before (Recv buffer from) = await m (2 * before + 1) true ∷
      (blocks (receive_at m before buffer) (len_of p buffer) ++ advance m (2 * before + 1) ∷ [])
  micros_of m before (Sync from to) = await m (2 * before + 2) false ∷ []

  -- These are the micro-steps of an instruction on medium m with t communications
  -- before it; without an instruction there are none.
  abbrev pub micros_in : ℕ → ℕ → Option Instr → List Micro
  micros_in m t None = []
  micros_in m t (Some x) = micros_of m t x

  -- the micro-steps of instruction a of a list on medium m
  abbrev pub block_in : ℕ → List Instr → ℕ → List Micro
  block_in m xs a = micros_in m (count_by is_communication (take a xs)) (slice_get xs a)

  -- Instruction a of the loop of s has these micro-steps, and none if a is beyond its end.
  abbrev pub block : ℕ → ℕ → List Micro
  block s a = block_in (number_or 0 (medium p s)) (turn p s) a

  -- Instruction a of the prologue of s has these micro-steps, and none if a is beyond its end.
  abbrev pub front_block : ℕ → ℕ → List Micro
  front_block s a = block_in (number_or 0 (medium p s)) (prologue p s) a

  -- The code of sequence s has the micro-steps of its prologue and of its loop, which
  -- are both empty if the program has no sequence s.
  abbrev pub code : ℕ → Code Micro
  code s = record {
    prologue = blocks (front_block s) (length (prologue p s));
    turn = blocks (block s) (length (turn p s));
  }

  -- Instruction a of the loop of s has this many micro-steps, and 0 if a is beyond its end.
  abbrev pub size : ℕ → ℕ → ℕ
  size s a = length (block s a)

  -- the place in the loop's micro-steps at which instruction a begins
  abbrev pub begins : ℕ → ℕ → ℕ
  begins s a = sum_below (size s) a

  -- the number of words: two for each pair, one turn for each medium, the
  -- elements of the buffers in all their places, and those of the wires
  abbrev pub words : ℕ → ℕ
  words media = 2 * length p.pairs + media + sum_below (λ b. depth_of p b * len_of p b) (length p.buffers) +
      sum_below wire_len media
