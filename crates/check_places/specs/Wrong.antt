-- What is wrong where a rule is broken: of what it asks something, and of the instruction that
-- shows it.
use Rattle.std.specs.Prelude.{
  ◌≡◌,
  ◌≢◌,
  ℕ,
  ◌+◌,
  ◌<◌,
  ◌≤◌,
  ◌⊎◌,
  true,
  false,
  List,
  ◌++◌,
  map,
  length,
  take,
  Some,
  None,
  slice_get,
  ℤ,
  [],
}
use Rattle.std.specs.List.{count_by}
use Rattle.sequence_build_laws.specs.declared.Kind.TheVariants.{Get}
use Rattle.sequence_build_laws.specs.declared.Source.{Source}
use Rattle.sequence_build_laws.specs.declared.Vertex.{Vertex}
use Rattle.sequence_build_laws.specs.Graph.{Graph}
use Rattle.sequence_build_laws.specs.declared.Seq.{Seq}
use Rattle.sequence_build_laws.specs.declared.Instr.{Instr}
use Rattle.sequence_build_laws.specs.declared.Instr.TheVariants.{Suc0, Suc1, Pre0, Pre1, Call, Send, Recv, Sync}
use Rattle.sequence_build_laws.specs.declared.Program.{Program}
use Rattle.sequence_build_laws.specs.Instructions.{
  Reader,
  depth_of,
  is_communication,
  is_guarded,
  len_of,
  medium,
  operator,
  prologue,
  readers,
  turn,
}
use Rattle.sequence_build_laws.specs.MicroSteps.{transfers}
use Rattle.sequence_build_laws.specs.Places.{calling, carried, opening_of, places, transfer}
use Rattle.sequence_build_laws.specs.WellFormed.{
  Communicates,
  HasLength,
  IsOnly,
  ReadsAt,
  Stands,
  WritesAt,
  len_is,
  operator_is,
  operator_of,
}
use Rattle.check_laws.specs.Items.{IsTransferred, NamesThere, is_made}
use Rattle.check_places.specs.declared.place.Part.{Part}
use Rattle.check_places.specs.declared.place.Part.TheVariants.{Loop, Prologue}

-- Instruction a of sequence s, or transfer a of medium s, comes before instruction b of sequence t,
-- or transfer b of medium t: by the sequence or medium, and then by the number in it.
abbrev pub IsEarlier : ℕ → ℕ → ℕ → ℕ → Type 0
IsEarlier s a t b = (s < t) ⊎ ((s ≡ t) × (a < b))

-- The instructions of a part.
abbrev pub instructions : Program → Part → ℕ → List Instr
instructions p Prologue s = prologue p s
instructions p Loop s = turn p s

module _ (p : Program) where
  -- Sequence s is another one than this architecture has there.
  abbrev pub IsOther : List Seq → ℕ → Type 0
  IsOther seqs s = slice_get (map (λ q. q.seq) p.seqs) s ≡ slice_get seqs s → ⊥

  -- Instruction a of this part of sequence s names what is not there, among this many operations
  -- and operators.
  abbrev pub NamesMore : ℕ → ℕ → Part → ℕ → ℕ → Type 0
  NamesMore operations operators part s a =
      (x : Instr) × (slice_get (instructions p part s) a ≡ Some x) × (NamesThere p operations operators x → ⊥)

  -- Instruction a of the loop of s calls operation v.
  abbrev pub Calls : ℕ → ℕ → ℕ → Type 0
  Calls v s a = (ins : List ℕ) × (outs : List ℕ) × Stands p s a (Call v ins outs)

  -- Instruction a of the loop of s writes buffer b as its output k.
  abbrev pub WritesAs : ℕ → ℕ → ℕ → ℕ → Type 0
  WritesAs b s a k = (x : Instr) × Stands p s a x × WritesAt x k b

  -- Instruction a of the loop of s writes buffer b.
  abbrev pub Writes : ℕ → ℕ → ℕ → Type 0
  Writes b s a = (k : ℕ) × WritesAs b s a k

  -- Instruction a of the loop of s reads buffer b.
  abbrev pub Reads : ℕ → ℕ → ℕ → Type 0
  Reads b s a = (k : ℕ) × (x : Instr) × Stands p s a x × ReadsAt x k b

  -- No instruction calls operation v.
  abbrev pub IsNotCalled : ℕ → Type 0
  IsNotCalled v = (s a : ℕ) → Calls v s a → ⊥

  -- This instruction calls operation v, and so does an earlier one.
  abbrev pub IsCalledAgain : ℕ → ℕ → ℕ → Type 0
  IsCalledAgain v s a = Calls v s a × ((t : ℕ) × (b : ℕ) × Calls v t b × IsEarlier t b s a)

  -- This instruction calls operation v, and its sequence is a communicator.
  abbrev pub IsCalledInThread : ℕ → ℕ → ℕ → Type 0
  IsCalledInThread v s a = Calls v s a × ((m : ℕ) × (medium p s ≡ Some m))

  -- This instruction calls operation v, which is x, the get half of a delay; the first call of its
  -- set half is in another sequence, or it does not come after this instruction.
  abbrev pub IsNotBeforeSet : ℕ → Vertex → ℕ → ℕ → Type 0
  IsNotBeforeSet v x s a =
      Calls v s a ×
      ((z : List ℤ) × (u : ℕ) × (x.kind ≡ Get z) × (x.twin ≡ Some u) ×
      ((s ≡ (calling p u).sequence) × (a < (calling p u).at) → ⊥))

  -- This instruction is the first communication of its loop, and its sequence is no communicator.
  abbrev pub IsOutsideThread : ℕ → ℕ → Type 0
  IsOutsideThread s a =
      (medium p s ≡ None) × ((x : Instr) × Stands p s a x × (is_communication x ≡ true)) ×
      ((b : ℕ) (x : Instr) → b < a → Stands p s b x → is_communication x ≡ false)

  -- Sequence s is at a medium that is not one of this many.
  abbrev pub IsAtNoMedium : ℕ → ℕ → Type 0
  IsAtNoMedium media s = (m : ℕ) × (medium p s ≡ Some m) × (media ≤ m)

  -- Sequence s is at a medium, and has more or fewer communications than the medium has transfers.
  abbrev pub IsMiscounted : ℕ → Type 0
  IsMiscounted s =
      (m : ℕ) × (medium p s ≡ Some m) × (count_by is_communication (turn p s) ≢ transfers p m)

  -- No communicator of medium m sends as its communication t.
  abbrev pub IsNotSent : ℕ → ℕ → Type 0
  IsNotSent m t = (s a b o : ℕ) → Communicates p m t s a (Send b o) → ⊥

  -- No communicator of medium m receives as its communication t.
  abbrev pub IsNotReceived : ℕ → ℕ → Type 0
  IsNotReceived m t = (s a b o : ℕ) → Communicates p m t s a (Recv b o) → ⊥

  -- This instruction sends transfer t of medium m to another operator than that of the sequence
  -- that receives it.
  abbrev pub IsSentElsewhere : ℕ → ℕ → ℕ → ℕ → Type 0
  IsSentElsewhere m t s a =
      (b : ℕ) × (o : ℕ) × Communicates p m t s a (Send b o) × (o ≢ operator p (transfer p m t).receiver)

  -- This instruction receives transfer t of medium m from another operator than that of the
  -- sequence that sends it.
  abbrev pub IsReceivedElsewhere : ℕ → ℕ → ℕ → ℕ → Type 0
  IsReceivedElsewhere m t s a =
      (b : ℕ) × (o : ℕ) × Communicates p m t s a (Recv b o) × (o ≢ operator p (transfer p m t).sender)

  -- This instruction is communication t of a communicator of medium m that neither sends nor
  -- receives transfer t, and it is no wait for a transfer between the operators of those that do.
  abbrev pub IsNotAwaited : ℕ → ℕ → ℕ → ℕ → Type 0
  IsNotAwaited m t s a =
      (x : Instr) × Communicates p m t s a x × (s ≢ (transfer p m t).sender) × (s ≢ (transfer p m t).receiver) ×
      (x ≢ Sync (operator p (transfer p m t).sender) (operator p (transfer p m t).receiver))

  -- No instruction writes buffer b.
  abbrev pub IsNotWritten : ℕ → Type 0
  IsNotWritten b = (s a : ℕ) → Writes b s a → ⊥

  -- This instruction writes buffer b, and so does an earlier one, or this one as an earlier output.
  abbrev pub IsWrittenAgain : ℕ → ℕ → ℕ → Type 0
  IsWrittenAgain b s a =
      (k : ℕ) × (t : ℕ) × (c : ℕ) × (j : ℕ) × WritesAs b s a k × WritesAs b t c j ×
      (IsEarlier t c s a ⊎ ((t ≡ s) × (c ≡ a) × (j < k)))

  -- This instruction writes or reads buffer b, and is on another operator than b.
  abbrev pub IsTouchedElsewhere : ℕ → ℕ → ℕ → Type 0
  IsTouchedElsewhere b s a =
      (Writes b s a ⊎ Reads b s a) × (operator_is p (slice_get p.buffers b) (operator p s) → ⊥)

  -- This instruction reads buffer b, and its sequence writes b, but not before it.
  abbrev pub IsReadTooEarly : ℕ → ℕ → ℕ → Type 0
  IsReadTooEarly b s a = Reads b s a × ((c : ℕ) × Writes b s c × (a ≤ c))

  -- This instruction writes buffer b, which has no place, or more than four, or several although no
  -- other sequence reads it.
  abbrev pub HasWrongPlaces : ℕ → ℕ → ℕ → Type 0
  HasWrongPlaces b s a =
      Writes b s a ×
      ((1 ≤ depth_of p b) × (depth_of p b ≤ 4) × (is_guarded p b ≡ false → depth_of p b ≡ 1) → ⊥)

  -- This instruction writes buffer b, and following receives back from b meets no call.
  abbrev pub IsNotMade : ℕ → ℕ → ℕ → Type 0
  IsNotMade b s a = Writes b s a × (is_made p (length p.buffers) b ≡ false)

  -- This instruction calls operation v, which is x, and reads more or fewer buffers than x takes.
  abbrev pub HasUnequalInputs : ℕ → Vertex → ℕ → ℕ → Type 0
  HasUnequalInputs v x s a =
      (ins : List ℕ) × (outs : List ℕ) × Stands p s a (Call v ins outs) ×
      (length ins ≢ length x.guards + length x.ins)

  -- Buffer b carries source z in its length.
  abbrev pub Carries : Graph → Source → ℕ → Type 0
  Carries g z b =
      (b < length p.buffers) × (carried p b ≡ z) × HasLength p [] (places p) (carried p) g z (len_of p b)

  -- This instruction calls operation v, which is x, and its input k, guards counted first, is a
  -- buffer that does not carry what x takes there.
  abbrev pub HasOtherInput : Graph → ℕ → ℕ → Vertex → ℕ → ℕ → Type 0
  HasOtherInput g v k x s a =
      (ins : List ℕ) × (outs : List ℕ) × (b : ℕ) × (z : Source) × Stands p s a (Call v ins outs) ×
      (slice_get ins k ≡ Some b) × (slice_get (map (λ d. d.source) x.guards ++ x.ins) k ≡ Some z) ×
      (Carries g z b → ⊥)

  -- This instruction calls operation v, which is x, and writes more or fewer buffers than x gives.
  abbrev pub HasUnequalOutputs : ℕ → Vertex → ℕ → ℕ → Type 0
  HasUnequalOutputs v x s a =
      (ins : List ℕ) × (outs : List ℕ) × Stands p s a (Call v ins outs) × (length outs ≢ length x.outs)

  -- Buffer b carries output k of operation v, which has length n.
  abbrev pub Gives : ℕ → ℕ → ℕ → ℕ → Type 0
  Gives v k n b = (carried p b ≡ record { vertex = v; port = k }) × len_is p (slice_get p.buffers b) n

  -- This instruction calls operation v, which is x, and its output k is a buffer that does not
  -- carry what x gives there.
  abbrev pub HasOtherOutput : ℕ → ℕ → Vertex → ℕ → ℕ → Type 0
  HasOtherOutput v k x s a =
      (ins : List ℕ) × (outs : List ℕ) × (b : ℕ) × (n : ℕ) × Stands p s a (Call v ins outs) ×
      (slice_get outs k ≡ Some b) × (slice_get x.outs k ≡ Some n) × (Gives v k n b → ⊥)

  -- This instruction receives transfer t of medium m.
  abbrev pub ReceivesIt : ℕ → ℕ → ℕ → ℕ → Type 0
  ReceivesIt m t s a =
      (s ≡ (transfer p m t).receiver) × (a ≡ (transfer p m t).receive_at) × IsTransferred p m t

  -- This instruction receives a transfer, into a buffer that has another length than the one sent.
  abbrev pub HasUnequalLengths : ℕ → ℕ → ℕ → ℕ → Type 0
  HasUnequalLengths m t s a =
      ReceivesIt m t s a × (len_of p (transfer p m t).received ≢ len_of p (transfer p m t).sent)

  -- This instruction receives a transfer, into a buffer that carries something else than the one
  -- sent.
  abbrev pub HasOtherValue : ℕ → ℕ → ℕ → ℕ → Type 0
  HasOtherValue m t s a =
      ReceivesIt m t s a × (carried p (transfer p m t).received ≢ carried p (transfer p m t).sent)

  -- This instruction is the first of the reading sequence that reads the buffer.
  abbrev pub ReadsFirst : Reader → ℕ → ℕ → Type 0
  ReadsFirst r s a = (s ≡ r.sequence) × Reads r.buffer s a × ((c : ℕ) → Reads r.buffer s c → a ≤ c)

  -- There is no pair q. This instruction is the first that reads the buffer for which it is needed.
  abbrev pub IsMissingPair : ℕ → Reader → ℕ → ℕ → Type 0
  IsMissingPair q r s a = ReadsFirst r s a × (length p.pairs ≤ q)

  -- Pair q is on another operator than the buffer that this instruction is the first to read.
  abbrev pub IsPairElsewhere : ℕ → Reader → ℕ → ℕ → Type 0
  IsPairElsewhere q r s a =
      ReadsFirst r s a × ((o : ℕ) × (slice_get p.pairs q ≡ Some o) × (operator_of p r.buffer ≢ Some o))

  -- This instruction writes the buffer, and none before it in its sequence is the only one in all
  -- loops that takes the empty semaphore of pair q.
  abbrev pub IsEmptyNotTaken : ℕ → Reader → ℕ → ℕ → Type 0
  IsEmptyNotTaken q r s a = Writes r.buffer s a × ((c : ℕ) → c < a → IsOnly p s c (Suc0 q) → ⊥)

  -- This instruction writes the buffer, and none after it in its sequence is the only one in all
  -- loops that signals the full semaphore of pair q.
  abbrev pub IsFullNotSignalled : ℕ → Reader → ℕ → ℕ → Type 0
  IsFullNotSignalled q r s a = Writes r.buffer s a × ((c : ℕ) → a < c → IsOnly p s c (Pre1 q) → ⊥)

  -- This instruction is the first that reads the buffer, and none before it in its sequence is the
  -- only one in all loops that takes the full semaphore of pair q.
  abbrev pub IsFullNotTaken : ℕ → Reader → ℕ → ℕ → Type 0
  IsFullNotTaken q r s a = ReadsFirst r s a × ((c : ℕ) → c < a → IsOnly p s c (Suc1 q) → ⊥)

  -- This instruction is the first that reads the buffer, and none after all reads of its sequence
  -- is the only one in all loops that signals the empty semaphore of pair q.
  abbrev pub IsEmptyNotSignalled : ℕ → Reader → ℕ → ℕ → Type 0
  IsEmptyNotSignalled q r s a =
      ReadsFirst r s a ×
      ((c : ℕ) → ((b : ℕ) → Reads r.buffer s b → b < c) → IsOnly p s c (Pre0 q) → ⊥)

  -- Pair q is there, and no reader is left for it.
  abbrev pub IsFurtherPair : ℕ → Type 0
  IsFurtherPair q = (q ≡ length (readers p)) × (q < length p.pairs)

  -- Line a of the prologue of s, or its end, is not the signal of pair q that the prologue of s must
  -- have there. The lines before it are those that the prologue must have.
  abbrev pub IsMissingSignal : ℕ → ℕ → ℕ → Type 0
  IsMissingSignal q s a =
      (take a (prologue p s) ≡ take a (opening_of p s)) × (slice_get (opening_of p s) a ≡ Some (Pre0 q)) ×
      (slice_get (prologue p s) a ≢ Some (Pre0 q))

  -- The lines of the prologue of s before line a are all lines that it must have.
  abbrev pub IsFurtherLine : ℕ → ℕ → Type 0
  IsFurtherLine s a = (take a (prologue p s) ≡ opening_of p s) × (a < length (prologue p s))
