-- What is right of all that is looked at before the place that is found.
use Rattle.std.specs.Prelude.{
  ◌≡◌,
  ◌≢◌,
  ℕ,
  ◌+◌,
  ◌<◌,
  ◌≤◌,
  ◌⊎◌,
  true,
  List,
  ◌++◌,
  map,
  length,
  Some,
  slice_get,
  [],
}
use Rattle.std.specs.List.{count_by}
use Rattle.sequence_build_laws.specs.declared.Source.{Source}
use Rattle.sequence_build_laws.specs.declared.Vertex.{Vertex}
use Rattle.sequence_build_laws.specs.Graph.{Graph}
use Rattle.sequence_build_laws.specs.declared.Seq.{Seq}
use Rattle.sequence_build_laws.specs.declared.Instr.{Instr}
use Rattle.sequence_build_laws.specs.declared.Instr.TheVariants.{Suc0, Suc1, Pre1, Send, Recv, Sync}
use Rattle.sequence_build_laws.specs.declared.Program.{Program}
use Rattle.sequence_build_laws.specs.Instructions.{
  Reader,
  is_communication,
  len_of,
  medium,
  operator,
  prologue,
  readers,
  turn,
}
use Rattle.sequence_build_laws.specs.MicroSteps.{transfers}
use Rattle.sequence_build_laws.specs.Places.{calling, carried, opening_of, places, transfer, writing}
use Rattle.sequence_build_laws.specs.WellFormed.{Communicates, IsBuffer, IsOnly, Stands, operator_is, operator_of}
use Rattle.check_laws.specs.Items.{IsCalledOnce, IsGuarded, IsWrittenOnce, NamesThere}
use Rattle.check_places.specs.declared.place.Part.{Part}
use Rattle.check_places.specs.declared.place.Part.TheVariants.{Loop, Prologue}
use Rattle.check_places.specs.Wrong.{Carries, Gives, IsEarlier, Reads, Writes, WritesAs, instructions}

-- This holds of each number below n.
abbrev pub HoldsBelow : (ℕ → Type 0) → ℕ → Type 0
HoldsBelow Holds n = (k : ℕ) → k < n → Holds k

-- At most one instruction before instruction a of sequence s does this.
abbrev pub IsSecond : (ℕ → ℕ → Type 0) → ℕ → ℕ → Type 0
IsSecond Does s a =
    (t b u c : ℕ) → Does t b → Does u c → IsEarlier t b s a → IsEarlier u c s a → (t ≡ u) × (b ≡ c)

-- No instruction but instruction a of sequence s does this.
abbrev pub IsAlone : (ℕ → ℕ → Type 0) → ℕ → ℕ → Type 0
IsAlone Does s a = (t b : ℕ) → Does t b → (t ≡ s) × (b ≡ a)

module _ (p : Program) where
  -- The sequences before s are those of this architecture.
  abbrev pub AreSameBefore : List Seq → ℕ → Type 0
  AreSameBefore seqs s = (t : ℕ) → t < s → slice_get (map (λ q. q.seq) p.seqs) t ≡ slice_get seqs t

  -- What is named is among this many operations and operators.
  module _ (operations operators : ℕ) where
    -- What the instructions of this part before instruction a of sequence s name is there.
    abbrev pub AreNamedBefore : Part → ℕ → ℕ → Type 0
    AreNamedBefore part s a =
        (t b : ℕ) (x : Instr) → IsEarlier t b s a → slice_get (instructions p part t) b ≡ Some x →
        NamesThere p operations operators x

    -- The same if all loops come before all prologues.
    abbrev pub AreNamedAhead : Part → ℕ → ℕ → Type 0
    AreNamedAhead Loop s a = AreNamedBefore Loop s a
    AreNamedAhead Prologue s a =
        ((t b : ℕ) (x : Instr) → Stands p t b x → NamesThere p operations operators x) × AreNamedBefore Prologue s a

  -- Each operation before v is called once as it is to be.
  abbrev pub AreCalledBefore : Graph → ℕ → Type 0
  AreCalledBefore g v = (u : ℕ) (x : Vertex) → u < v → slice_get g.vertices u ≡ Some x → IsCalledOnce p u x

  -- If the loop of s has a communication, s is a communicator.
  abbrev pub IsAttached : ℕ → Type 0
  IsAttached s = (a : ℕ) (x : Instr) → Stands p s a x → is_communication x ≡ true → (m : ℕ) × (medium p s ≡ Some m)

  -- If s is at a medium, that is one of this many.
  abbrev pub IsAtMedium : ℕ → ℕ → Type 0
  IsAtMedium media s = (m : ℕ) → medium p s ≡ Some m → m < media

  -- If s is at a medium, it has as many communications as the medium has transfers.
  abbrev pub IsCounted : ℕ → Type 0
  IsCounted s = (m : ℕ) → medium p s ≡ Some m → count_by is_communication (turn p s) ≡ transfers p m

  -- This holds of each transfer before transfer t of medium m.
  abbrev pub HoldsEarlier : (ℕ → ℕ → Type 0) → ℕ → ℕ → Type 0
  HoldsEarlier Holds m t = (n u : ℕ) → IsEarlier n u m t → u < transfers p n → Holds n u

  -- Some communicator of medium m sends as its communication t.
  abbrev pub IsSent : ℕ → ℕ → Type 0
  IsSent m t = (s : ℕ) × (a : ℕ) × (b : ℕ) × (o : ℕ) × Communicates p m t s a (Send b o)

  -- Some communicator of medium m receives as its communication t.
  abbrev pub IsReceived : ℕ → ℕ → Type 0
  IsReceived m t = (s : ℕ) × (a : ℕ) × (b : ℕ) × (o : ℕ) × Communicates p m t s a (Recv b o)

  -- Transfer t of medium m is sent to the operator of the sequence that receives it.
  abbrev pub IsSentThere : ℕ → ℕ → Type 0
  IsSentThere m t =
      Communicates p m t (transfer p m t).sender (transfer p m t).send_at
      (Send (transfer p m t).sent (operator p (transfer p m t).receiver))

  -- Transfer t of medium m is received from the operator of the sequence that sends it.
  abbrev pub IsReceivedThere : ℕ → ℕ → Type 0
  IsReceivedThere m t =
      Communicates p m t (transfer p m t).receiver (transfer p m t).receive_at
      (Recv (transfer p m t).received (operator p (transfer p m t).sender))

  -- Communication t of each other communicator of medium m before sequence s is a wait for the transfer.
  abbrev pub IsAwaitedBefore : ℕ → ℕ → ℕ → Type 0
  IsAwaitedBefore m t s =
      (n a : ℕ) (x : Instr) → n < s → Communicates p m t n a x → n ≢ (transfer p m t).sender →
      n ≢ (transfer p m t).receiver →
      x ≡ Sync (operator p (transfer p m t).sender) (operator p (transfer p m t).receiver)

  -- Output k of instruction a of sequence s is the only one that writes buffer b.
  abbrev pub IsWrite : ℕ → ℕ → ℕ → ℕ → Type 0
  IsWrite b s a k =
      WritesAs p b s a k × ((t c j : ℕ) → WritesAs p b t c j → (t ≡ s) × (c ≡ a) × (j ≡ k))

  -- Buffer b is written by one output of one instruction.
  abbrev pub HasOneWrite : ℕ → Type 0
  HasOneWrite b = (s : ℕ) × (a : ℕ) × (k : ℕ) × IsWrite b s a k

  -- Sequence s is on the operator of buffer b.
  abbrev pub IsNear : ℕ → ℕ → Type 0
  IsNear b s = operator_is p (slice_get p.buffers b) (operator p s)

  -- If this instruction does not write buffer b, the one that does is on the operator of b, and so
  -- are all before this one that read b.
  abbrev pub IsFirstFar : ℕ → ℕ → ℕ → Type 0
  IsFirstFar b s a =
      (Writes p b s a → ⊥) → (t c : ℕ) → Writes p b t c ⊎ (Reads p b t c × IsEarlier t c s a) → IsNear b t

  -- All instructions that write or read buffer b are on its operator.
  abbrev pub AreNear : ℕ → Type 0
  AreNear b = (t c : ℕ) → Writes p b t c ⊎ Reads p b t c → IsNear b t

  -- No instruction of sequence s before instruction a reads buffer b.
  abbrev pub IsFirstRead : ℕ → ℕ → ℕ → Type 0
  IsFirstRead b s a = (c : ℕ) → Reads p b s c → a ≤ c

  -- All instructions of sequence s that read buffer b come after instruction a.
  abbrev pub AreReadAfter : ℕ → ℕ → ℕ → Type 0
  AreReadAfter b s a = (c : ℕ) → Reads p b s c → a < c

  -- Buffer b by itself is right: it is written once, touched on its own operator only, read by its
  -- writer after the write only, and as deep as it may be.
  abbrev pub IsRight : ℕ → Type 0
  IsRight b = IsBuffer p [] (places p) b

  -- Each buffer is right, and comes from a call in the end.
  abbrev pub AreRight : Type 0
  AreRight = (b : ℕ) → b < length p.buffers → IsWrittenOnce p b

  -- The inputs before k of the call of operation v, which is x, guards counted first, are buffers
  -- that carry what x takes there.
  abbrev pub CarryBelow : Graph → ℕ → Vertex → ℕ → Type 0
  CarryBelow g v x k =
      (j b : ℕ) (z : Source) → j < k → slice_get (calling p v).ins j ≡ Some b →
      slice_get (map (λ d. d.source) x.guards ++ x.ins) j ≡ Some z → Carries p g z b

  -- The call of operation v, which is x, reads as many buffers as x takes values.
  abbrev pub HasAllInputs : ℕ → Vertex → Type 0
  HasAllInputs v x = length (calling p v).ins ≡ length x.guards + length x.ins

  -- The call of operation v, which is x, writes as many buffers as x gives values.
  abbrev pub HasAllOutputs : ℕ → Vertex → Type 0
  HasAllOutputs v x = length (calling p v).outs ≡ length x.outs

  -- The call of operation v, which is x, reads one buffer for each value that x takes, which carries it.
  abbrev pub Takes : Graph → ℕ → Vertex → Type 0
  Takes g v x = HasAllInputs v x × CarryBelow g v x (length (calling p v).ins)

  -- The outputs before k of the call of operation v, which is x, are buffers that carry what x
  -- gives there.
  abbrev pub GiveBelow : ℕ → Vertex → ℕ → Type 0
  GiveBelow v x k =
      (j b n : ℕ) → j < k → slice_get (calling p v).outs j ≡ Some b → slice_get x.outs j ≡ Some n → Gives p v j n b

  -- The call of operation v, which is x, reads what x takes, and it writes one buffer for each value
  -- that x gives, which carries it.
  abbrev pub Fits : Graph → ℕ → Vertex → Type 0
  Fits g v x = Takes g v x × HasAllOutputs v x × GiveBelow v x (length (calling p v).outs)

  -- Each operation before v is called on buffers that carry what it takes and gives.
  abbrev pub FitBefore : Graph → ℕ → Type 0
  FitBefore g v = (u : ℕ) (x : Vertex) → u < v → slice_get g.vertices u ≡ Some x → Fits g u x

  -- What transfer t of medium m receives is as long as what it sends, and carries the same.
  abbrev pub Keeps : ℕ → ℕ → Type 0
  Keeps m t =
      (len_of p (transfer p m t).received ≡ len_of p (transfer p m t).sent) ×
      (carried p (transfer p m t).received ≡ carried p (transfer p m t).sent)

  -- Pair q is on the operator of the buffer that has this number among those that other sequences
  -- read, and guards it.
  abbrev pub IsPaired : ℕ → Type 0
  IsPaired q =
      (slice_get (map (λ o. Some o) p.pairs) q ≡ slice_get (map (λ r. operator_of p r.buffer) (readers p)) q) ×
      IsGuarded p q

  -- Pair q is on the operator of the buffer of this reader.
  abbrev pub IsDeclared : ℕ → Reader → Type 0
  IsDeclared q r = (o : ℕ) × (slice_get p.pairs q ≡ Some o) × (operator_of p r.buffer ≡ Some o)

  -- In the loop of s one instruction before instruction a takes the empty semaphore of pair q, and no
  -- other instruction of a loop does.
  abbrev pub IsEmptyTaken : ℕ → ℕ → ℕ → Type 0
  IsEmptyTaken q s a = (c : ℕ) × (c < a) × IsOnly p s c (Suc0 q)

  -- In the loop of s one instruction after instruction a signals the full semaphore of pair q, and no
  -- other instruction of a loop does.
  abbrev pub IsFullSignalled : ℕ → ℕ → ℕ → Type 0
  IsFullSignalled q s a = (c : ℕ) × (a < c) × IsOnly p s c (Pre1 q)

  -- In the loop of s one instruction before instruction a takes the full semaphore of pair q, and no
  -- other instruction of a loop does.
  abbrev pub IsFullTaken : ℕ → ℕ → ℕ → Type 0
  IsFullTaken q s a = (c : ℕ) × (c < a) × IsOnly p s c (Suc1 q)

  -- Around the write of the buffer its writer takes the empty semaphore of pair q and signals the full one.
  abbrev pub IsWrittenBetween : ℕ → Reader → Type 0
  IsWrittenBetween q r =
      IsEmptyTaken q (writing p r.buffer).writer (writing p r.buffer).at ×
      IsFullSignalled q (writing p r.buffer).writer (writing p r.buffer).at

  -- The prologue of s is the one that it must have.
  abbrev pub IsOpened : ℕ → Type 0
  IsOpened s = prologue p s ≡ opening_of p s
