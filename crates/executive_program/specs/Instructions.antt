-- Instructions and programs: what an instruction reads, writes and sends, and the parts of a sequence.
use Rattle.std.specs.Prelude.{
  ℕ,
  suc,
  ◌≤◌,
  Bool,
  true,
  false,
  ◌&&◌,
  not,
  cond,
  nat_eq,
  List,
  [],
  ◌∷◌,
  length,
  Option,
  Some,
  None,
  slice_get,
  take,
}
use Rattle.std.specs.List.{count_by, list_any}
use Rattle.executive_program.specs.declared.program.Instr.{Instr}
use Rattle.executive_program.specs.declared.program.Instr.TheVariants.{Call, Send, Recv, Sync}
use Rattle.executive_program.specs.declared.program.Buffer.{Buffer}
use Rattle.executive_program.specs.declared.program.SeqCode.{SeqCode}
use Rattle.executive_program.specs.declared.program.Program.{Program}
use Rattle.executive_program.specs.Blocks.{blocks}

-- An instruction is a communication if it is a send, a receive or a sync, and so takes
-- part in a transfer.
abbrev pub is_communication : Instr → Bool
is_communication (Send b q) = true
is_communication (Recv b q) = true
is_communication (Sync p q) = true
is_communication _ = false

-- the instruction reads buffer b, or writes it
abbrev pub reads : ℕ → Instr → Bool
reads b (Call v ins outs) = list_any (λ c. nat_eq c b) ins
reads b (Send c q) = nat_eq c b
reads b _ = false

-- An instruction writes buffer b if it is a call with b among its outputs, or receives into b.
abbrev pub writes : ℕ → Instr → Bool
writes b (Call v ins outs) = list_any (λ c. nat_eq c b) outs
writes b (Recv c q) = nat_eq c b
writes b _ = false

-- the parts of a sequence, of which there may be none
abbrev pub turn_of : Option SeqCode → List Instr
turn_of None = []
turn_of (Some q) = q.turn

-- These are the instructions of a sequence's prologue, and none if there is no sequence.
abbrev pub prologue_of : Option SeqCode → List Instr
prologue_of None = []
prologue_of (Some q) = q.prologue

-- A communicator has this medium; it is none for the computation sequence of an
-- operator, and if there is no sequence.
abbrev pub medium_in : Option SeqCode → Option ℕ
medium_in None = None
medium_in (Some q) = q.seq.medium

-- A sequence belongs to this operator, and to operator 0 if there is no sequence.
abbrev pub operator_in : Option SeqCode → ℕ
operator_in None = 0
operator_in (Some q) = q.seq.operator

-- This is the given number, and d if none is given.
abbrev pub number_or : ℕ → Option ℕ → ℕ
number_or d None = d
number_or d (Some m) = m

-- Both are the same medium, or both are none.
abbrev pub same_medium : Option ℕ → Option ℕ → Bool
same_medium None None = true
same_medium None (Some n) = false
same_medium (Some m) None = false
same_medium (Some m) (Some n) = nat_eq m n

-- A buffer has this many elements in each of its places, and 0 if there is no buffer.
abbrev pub len_in : Option Buffer → ℕ
len_in None = 0
len_in (Some x) = x.len

-- a buffer that is not there has one place
abbrev pub depth_in : Option Buffer → ℕ
depth_in None = 1
depth_in (Some x) = x.depth

-- a sequence that reads a buffer which another one writes, so that a pair of semaphores guards it
pub record Reader : Type 0 where
  pub buffer : ℕ
  pub sequence : ℕ

-- The loop of this sequence reads buffer b and does not write it, so that the sequence
-- has to wait until another one has written b.
abbrev pub waits_for : ℕ → SeqCode → Bool
waits_for b q = list_any (reads b) q.turn && not (list_any (writes b) q.turn)

-- of these sequences, of which the first has number s, those that read buffer b and do not write it
abbrev pub readers_from : ℕ → List SeqCode → ℕ → List Reader
readers_from s [] b = []
readers_from s (q ∷ qs) b = cond (waits_for b q) (record { buffer = b; sequence = s } ∷ readers_from (suc s) qs b)
    (readers_from (suc s) qs b)

module _ (p : Program) where
  -- These are the instructions of the loop of sequence s, and none if the program has
  -- no sequence s.
  abbrev pub turn : ℕ → List Instr
  turn s = turn_of (slice_get p.seqs s)

  -- These are the instructions of the prologue of sequence s, and none if the program
  -- has no sequence s.
  abbrev pub prologue : ℕ → List Instr
  prologue s = prologue_of (slice_get p.seqs s)

  -- Sequence s is a communicator of this medium; it is none for a computation
  -- sequence, and if the program has no sequence s.
  abbrev pub medium : ℕ → Option ℕ
  medium s = medium_in (slice_get p.seqs s)

  -- Sequence s belongs to this operator, and to operator 0 if the program has no sequence s.
  abbrev pub operator : ℕ → ℕ
  operator s = operator_in (slice_get p.seqs s)

  -- Buffer b has this many elements in each of its places, and 0 if the program has no buffer b.
  abbrev pub len_of : ℕ → ℕ
  len_of b = len_in (slice_get p.buffers b)

  -- A given buffer has this many elements in each place, and 0 if none is given.
  abbrev pub len_by : Option ℕ → ℕ
  len_by None = 0
  len_by (Some b) = len_of b

  -- Buffer b has this many places, and 1 if the program has no buffer b.
  abbrev pub depth_of : ℕ → ℕ
  depth_of b = depth_in (slice_get p.buffers b)

  -- each buffer with each sequence that reads it and does not write it, by buffer and then by sequence
  abbrev pub readers : List Reader
  readers = blocks (readers_from 0 p.seqs) (length p.buffers)

  -- each buffer has a place
  abbrev pub HasPlaces : Type 0
  HasPlaces = (b : ℕ) → 1 ≤ depth_of b

  -- a pair guards buffer b: some sequence reads it and does not write it
  abbrev pub is_guarded : ℕ → Bool
  is_guarded b = list_any (waits_for b) p.seqs

  -- how many places the buffer of pair q has: that of entry q of the readers, and 1 beyond them
  abbrev pub depth_at : Option Reader → ℕ
  depth_at None = 1
  depth_at (Some x) = depth_of x.buffer

  -- The buffer of pair q has this many places; it is 1 if the readers have no entry q.
  abbrev pub pair_depth : ℕ → ℕ
  pair_depth q = depth_at (slice_get readers q)

  -- how many communications stand before place a of the loop of s
  abbrev pub communications : ℕ → ℕ → ℕ
  communications s a = count_by is_communication (take a (turn s))
