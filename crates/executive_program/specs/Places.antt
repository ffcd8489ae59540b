-- Where things stand in a program: an instruction is named by its sequence and
-- its place in its loop. All of it is computed from the program.
use Rattle.std.specs.Prelude.{
  ℕ,
  zero,
  suc,
  Bool,
  true,
  false,
  ◌&&◌,
  cond,
  nat_eq,
  List,
  [],
  ◌∷◌,
  length,
  Option,
  Some,
  None,
  slice_get,
  ◌<◌,
  ◌≡◌,
}
use Rattle.std.specs.List.{list_any, position_or_len}
use Rattle.flat_graph.specs.declared.vertex.Source.{Source}
use Rattle.interleavings.specs.Owners.{sum_below}
use Rattle.executive_program.specs.declared.program.Instr.{Instr}
use Rattle.executive_program.specs.declared.program.Instr.TheVariants.{Suc0, Suc1, Pre0, Pre1, Call, Send, Recv}
use Rattle.executive_program.specs.declared.program.SeqCode.{SeqCode}
use Rattle.executive_program.specs.declared.program.Program.{Program}
use Rattle.executive_program.specs.Blocks.{blocks, repeated}
use Rattle.executive_program.specs.Instructions.{
  is_communication,
  writes,
  turn,
  medium,
  Reader,
  readers,
  depth_of,
  communications,
  prologue,
}
use Rattle.executive_program.specs.MicroSteps.{is_on, sent}

-- A buffer is written as output `port` of instruction `at` of sequence `writer`.
pub record Writing : Type 0 where
  pub writer : ℕ
  pub at : ℕ
  pub port : ℕ

-- A pair of semaphores: its buffer, the reading sequence, the places of its four instructions in the
-- loops of the writing and the reading sequence, and of its first signal in the reader's prologue.
pub record Pair : Type 0 where
  pub buffer : ℕ
  pub reader : ℕ
  pub take_empty : ℕ
  pub signal_full : ℕ
  pub take_full : ℕ
  pub signal_empty : ℕ
  pub front : ℕ

-- A transfer: its sending and its receiving sequence, the places of the send and of the receive in their loops, and the
-- buffers that are sent and received.
pub record Transfer : Type 0 where
  pub sender : ℕ
  pub send_at : ℕ
  pub receiver : ℕ
  pub receive_at : ℕ
  pub sent : ℕ
  pub received : ℕ

-- The call of an operation: its sequence, its place in the loop, and the buffers that it reads and writes.
pub record Calling : Type 0 where
  pub sequence : ℕ
  pub at : ℕ
  pub ins : List ℕ
  pub outs : List ℕ

-- by buffer, by pair, by medium and number, and by operation
pub record Places : Type 0 where
  pub writing : ℕ → Writing
  pub pair : ℕ → Pair
  pub transfer : ℕ → ℕ → Transfer
  pub calling : ℕ → Calling

-- It is true of `Suc0` of pair q, by which the writer takes the empty semaphore before it writes.
abbrev pub takes_empty : ℕ → Instr → Bool
takes_empty q (Suc0 r) = nat_eq r q
takes_empty q _ = false

-- It is true of `Suc1` of pair q, by which the reader takes the full semaphore before it reads.
abbrev pub takes_full : ℕ → Instr → Bool
takes_full q (Suc1 r) = nat_eq r q
takes_full q _ = false

-- It is true of `Pre0` of pair q, by which the reader signals the empty semaphore
-- after it has read.
abbrev pub signals_empty : ℕ → Instr → Bool
signals_empty q (Pre0 r) = nat_eq r q
signals_empty q _ = false

-- It is true of `Pre1` of pair q, by which the writer signals the full semaphore after
-- it has written.
abbrev pub signals_full : ℕ → Instr → Bool
signals_full q (Pre1 r) = nat_eq r q
signals_full q _ = false

-- It is true of a call of operation v, with any buffers.
abbrev pub calls : ℕ → Instr → Bool
calls v (Call u ins outs) = nat_eq u v
calls v _ = false

-- It is true of a send, of any buffer to any operator, and false if there is no instruction.
abbrev pub is_send : Option Instr → Bool
is_send (Some (Send b q)) = true
is_send _ = false

-- It is true of a receive, into any buffer from any operator, and false if there is no instruction.
abbrev pub is_receive : Option Instr → Bool
is_receive (Some (Recv b q)) = true
is_receive _ = false

-- the number of the output at which an instruction writes buffer b
abbrev pub output_at : ℕ → Option Instr → ℕ
output_at b (Some (Call v ins outs)) = position_or_len (λ c. nat_eq c b) outs
output_at b _ = 0

-- A send or a receive names this buffer; for any other instruction, and for none, it is 0.
abbrev pub buffer_in : Option Instr → ℕ
buffer_in (Some (Send b q)) = b
buffer_in (Some (Recv b q)) = b
buffer_in _ = 0

-- A call reads these buffers, those of its guards first; any other instruction, and
-- none, gives the empty list.
abbrev pub ins_in : Option Instr → List ℕ
ins_in (Some (Call v ins outs)) = ins
ins_in _ = []

-- A call writes these buffers, in the order of its outputs; any other instruction, and
-- none, gives the empty list.
abbrev pub outs_in : Option Instr → List ℕ
outs_in (Some (Call v ins outs)) = outs
outs_in _ = []

-- the place of communication t among these instructions, or their number
abbrev pub communication_at : List Instr → ℕ → ℕ
communication_at [] t = 0
communication_at (x ∷ xs) zero = cond (is_communication x) 0 (suc (communication_at xs zero))
communication_at (x ∷ xs) (suc t) = suc (communication_at xs (cond (is_communication x) t (suc t)))

-- This is the given reader, and sequence 0 with buffer 0 if none is given.
abbrev pub reader_or : Option Reader → Reader
reader_or None = record { buffer = 0; sequence = 0 }
reader_or (Some x) = x

module _ (p : Program) where
  -- the first sequence of which the test holds, or their number
  abbrev pub sequence_where : (SeqCode → Bool) → ℕ
  sequence_where test = position_or_len test p.seqs

  -- Buffer b is written by this sequence, the first one whose loop writes it; it is
  -- the number of sequences if none does.
  abbrev pub writer_of : ℕ → ℕ
  writer_of b = sequence_where (λ q. list_any (writes b) q.turn)

  -- The writer of buffer b first writes it at this place of its loop; it is 0 if no
  -- sequence writes b.
  abbrev pub written_at : ℕ → ℕ
  written_at b = position_or_len (writes b) (turn p (writer_of b))

  -- Buffer b is first written here. If no sequence writes it, the writer is the number
  -- of sequences, and the place and the output are 0.
  abbrev pub writing : ℕ → Writing
  writing b = record {
    writer = writer_of b;
    at = written_at b;
    port = output_at b (slice_get (turn p (writer_of b)) (written_at b));
  }

  -- Pair q guards this buffer for this sequence, by entry q of the readers; both are 0
  -- if there is no such entry.
  abbrev pub reader : ℕ → Reader
  reader q = reader_or (slice_get (readers p) q)

  -- How many signals of the empty semaphore of pair i the prologue of sequence s has: one for each
  -- place of its buffer if s is its reader, and none otherwise.
  abbrev pub opening_signals : ℕ → ℕ → ℕ
  opening_signals s i = cond (nat_eq (reader i).sequence s) (depth_of p (reader i).buffer) 0

  -- The instructions of pair q are first found at these places of its writer's and its
  -- reader's loops; one that is missing has the length of the loop as its place.
  abbrev pub pair : ℕ → Pair
  pair q = record {
    buffer = (reader q).buffer;
    reader = (reader q).sequence;
    take_empty = position_or_len (takes_empty q) (turn p (writer_of (reader q).buffer));
    signal_full = position_or_len (signals_full q) (turn p (writer_of (reader q).buffer));
    take_full = position_or_len (takes_full q) (turn p (reader q).sequence);
    signal_empty = position_or_len (signals_empty q) (turn p (reader q).sequence);
    front = sum_below (opening_signals (reader q).sequence) q;
  }

  -- The signals of the empty semaphore of pair q in the prologue of sequence s: one for each place
  -- of its buffer if s is its reader, and none otherwise.
  abbrev pub signals_of : ℕ → ℕ → List Instr
  signals_of s q = repeated (Pre0 q) (opening_signals s q)

  -- A well-formed program has this prologue in sequence s, which opens each pair that
  -- s reads by; it is empty if s is no reader.
  abbrev pub opening_of : ℕ → List Instr
  opening_of s = blocks (signals_of s) (length (readers p))

  -- the communicator of medium m whose communication t is a send, or a receive
  abbrev pub sends_at : ℕ → ℕ → SeqCode → Bool
  sends_at m t q = is_on m q.seq.medium && is_send (slice_get q.turn (communication_at q.turn t))

  -- The sequence is a communicator of medium m, and its communication t is a receive.
  abbrev pub receives_at : ℕ → ℕ → SeqCode → Bool
  receives_at m t q = is_on m q.seq.medium && is_receive (slice_get q.turn (communication_at q.turn t))

  -- This is transfer t if sequence s sends and sequence r receives it, each by its communication t;
  -- one that has no communication t gets the length of its loop as place, and buffer 0.
  abbrev pub transfer_by : ℕ → ℕ → ℕ → Transfer
  transfer_by t s r = record {
    sender = s;
    send_at = communication_at (turn p s) t;
    receiver = r;
    receive_at = communication_at (turn p r) t;
    sent = buffer_in (slice_get (turn p s) (communication_at (turn p s) t));
    received = buffer_in (slice_get (turn p r) (communication_at (turn p r) t));
  }

  -- Transfer t of medium m has the first communicator that sends as its communication t, and the
  -- first that receives as its own; one that is missing is numbered by the number of sequences.
  abbrev pub transfer : ℕ → ℕ → Transfer
  transfer m t = transfer_by t (sequence_where (sends_at m t)) (sequence_where (receives_at m t))

  -- This is the call at place a of the loop of s; if no call is there, it has no buffers.
  abbrev pub calling_by : ℕ → ℕ → Calling
  calling_by s a = record {
    sequence = s;
    at = a;
    ins = ins_in (slice_get (turn p s) a);
    outs = outs_in (slice_get (turn p s) a);
  }

  -- Operation v is called by this sequence, the first one whose loop calls it; it is
  -- the number of sequences if none does.
  abbrev pub caller_of : ℕ → ℕ
  caller_of v = sequence_where (λ q. list_any (calls v) q.turn)

  -- Operation v is first called here. If it is not called, the sequence is the number
  -- of sequences, the place is 0, and there are no buffers.
  abbrev pub calling : ℕ → Calling
  calling v = calling_by (caller_of v) (position_or_len (calls v) (turn p (caller_of v)))

  -- These are the places of each buffer, pair, transfer and operation in the program.
  abbrev pub places : Places
  places = record { writing = writing; pair = pair; transfer = transfer; calling = calling }

  -- The source that is given if there is none: output 0 of operation 0.
  abbrev pub no_source : Source
  no_source = record { vertex = 0; port = 0 }

  -- A buffer that is sent carries this source, by `inner`; if none is sent, it is
  -- output 0 of operation 0.
  abbrev pub sent_source : (ℕ → Source) → Option ℕ → Source
  sent_source inner None = no_source
  sent_source inner (Some b) = inner b

  -- A buffer that this instruction writes in this way carries this source: for a call its output,
  -- for a receive what the sent buffer carries by `inner`; otherwise output 0 of operation 0.
  abbrev pub source_by : (ℕ → Source) → Writing → Option Instr → Source
  source_by inner w (Some (Call v ins outs)) = record { vertex = v; port = w.port }
  source_by inner w (Some (Recv b o)) = sent_source inner (sent_in_turn w (medium p w.writer))
    where
      sent_in_turn : Writing → Option ℕ → Option ℕ
      sent_in_turn w None = None
      sent_in_turn w (Some m) = sent p m (communications p w.writer w.at)
  source_by inner w _ = no_source

  -- Buffer b carries this source if its value has come over fewer transfers than this number; if
  -- it has not, it is output 0 of operation 0. It is an output of the call that writes b, or what
  -- the buffer carries whose transfer b receives.
  abbrev pub carried_within : ℕ → ℕ → Source
  carried_within zero b = no_source
  carried_within (suc hops) b = source_by (carried_within hops) (writing b)
      (slice_get (turn p (writing b).writer) (writing b).at)

  -- Buffer b carries the value of this source, an output of the call from which the value came,
  -- over transfers or none; if there is no such call, it is output 0 of operation 0. A value goes
  -- over fewer transfers than there are buffers.
  abbrev pub carried : ℕ → Source
  carried b = carried_within (length p.buffers) b

-- Each prologue opens the pairs by which its sequence reads, by number and once for
-- each place, and does nothing else.
abbrev pub AreOpened : Program → Type 0
AreOpened p = (s : ℕ) → s < length p.seqs → prologue p s ≡ opening_of p s
