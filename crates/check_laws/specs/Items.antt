-- What is asked of a program whatever the order in which its sequences take turns: names, calls, transfers, buffers,
-- pairs, prologues.
use Rattle.std.specs.Prelude.{
  ◌≡◌,
  ◌≢◌,
  ℕ,
  zero,
  suc,
  ◌<◌,
  ◌≤◌,
  ◌⊎◌,
  Bool,
  true,
  false,
  List,
  ◌++◌,
  map,
  length,
  Some,
  None,
  slice_get,
  ℤ,
  [],
}
use Rattle.std.specs.List.{count_by}
use Rattle.sequence_build_laws.specs.declared.Vertex.{Vertex}
use Rattle.sequence_build_laws.specs.declared.Kind.TheVariants.{Get}
use Rattle.sequence_build_laws.specs.Graph.{Graph}
use Rattle.sequence_build_laws.specs.declared.Seq.{Seq}
use Rattle.sequence_build_laws.specs.declared.Instr.{Instr}
use Rattle.sequence_build_laws.specs.declared.Instr.TheVariants.{Suc0, Suc1, Pre0, Pre1, Call, Send, Recv, Sync}
use Rattle.sequence_build_laws.specs.declared.Program.{Program}
use Rattle.sequence_build_laws.specs.Instructions.{
  is_communication,
  turn,
  prologue,
  medium,
  operator,
  len_of,
  depth_of,
  is_guarded,
  readers,
}
use Rattle.sequence_build_laws.specs.MicroSteps.{transfers}
use Rattle.sequence_build_laws.specs.Places.{writing, pair, transfer, calling, carried, places, AreOpened}
use Rattle.sequence_build_laws.specs.WellFormed.{
  Stands,
  IsOnly,
  Communicates,
  WritesAt,
  ReadsAt,
  operator_is,
  operator_of,
  CarryInOrder,
  CarryOutputs,
}
use Rattle.order_check.specs.declared.carrying.Origin.{Origin}
use Rattle.order_check.specs.declared.carrying.Origin.TheVariants.{Made, Received, Nowhere}
use Rattle.order_check.specs.Carries.{origin}

-- a call is met here, or further back from the buffer that is sent
abbrev pub made_from : Origin → (ℕ → Bool) → Bool
made_from (Made v port) further = true
made_from (Received b) further = further b
made_from Nowhere further = false

module _ (p : Program) where
  -- what the instruction names is there, among this many operations and operators
  abbrev pub NamesThere : ℕ → ℕ → Instr → Type 0
  NamesThere operations operators (Suc0 q) = q < length p.pairs
  NamesThere operations operators (Suc1 q) = q < length p.pairs
  NamesThere operations operators (Pre0 q) = q < length p.pairs
  NamesThere operations operators (Pre1 q) = q < length p.pairs
  NamesThere operations operators (Call v ins outs) =
      (v < operations) × ((k b : ℕ) → (slice_get ins k ≡ Some b) ⊎ (slice_get outs k ≡ Some b) → b < length p.buffers)
  NamesThere operations operators (Send b o) = (b < length p.buffers) × (o < operators)
  NamesThere operations operators (Recv b o) = (b < length p.buffers) × (o < operators)
  NamesThere operations operators (Sync o q) = (o < operators) × (q < operators)

  -- The sequences are these, and what an instruction names is there.
  pub record AreNamed (operations operators : ℕ) (seqs : List Seq) : Type 0 where
    pub sequences : map (λ q. q.seq) p.seqs ≡ seqs
    pub loops : (s a : ℕ) (x : Instr) → slice_get (turn p s) a ≡ Some x → NamesThere operations operators x
    pub prologues : (s a : ℕ) (x : Instr) → slice_get (prologue p s) a ≡ Some x → NamesThere operations operators x

  -- The operation is called once, in a computation sequence; both halves of a delay in one sequence, the get half
  -- first.
  pub record IsCalledOnce (v : ℕ) (x : Vertex) : Type 0 where
    pub stands : Stands p (calling p v).sequence (calling p v).at (Call v (calling p v).ins (calling p v).outs)
    pub only : (s a : ℕ) (ins outs : List ℕ) → Stands p s a (Call v ins outs) →
        (s ≡ (calling p v).sequence) × (a ≡ (calling p v).at)
    pub computes : medium p (calling p v).sequence ≡ None
    pub twins : (z : List ℤ) (u : ℕ) → x.kind ≡ Get z → x.twin ≡ Some u →
        ((calling p v).sequence ≡ (calling p u).sequence) × ((calling p v).at < (calling p u).at)

  -- Communication t of each communicator of medium m: one send, one receive, and for all others a wait, each between
  -- the same two operators.
  pub record IsTransferred (m t : ℕ) : Type 0 where
    pub sends : Communicates p m t (transfer p m t).sender (transfer p m t).send_at
        (Send (transfer p m t).sent (operator p (transfer p m t).receiver))
    pub receives : Communicates p m t (transfer p m t).receiver (transfer p m t).receive_at
        (Recv (transfer p m t).received (operator p (transfer p m t).sender))
    pub others : (s a : ℕ) (x : Instr) → Communicates p m t s a x →
        s ≢ (transfer p m t).sender → s ≢ (transfer p m t).receiver →
        x ≡ Sync (operator p (transfer p m t).sender) (operator p (transfer p m t).receiver)

  -- Of this many media, only communicators have communications in their loops, one for each
  -- transfer of their medium, in which one sends, one receives and all others wait.
  pub record AreTransferred (media : ℕ) : Type 0 where
    pub communicators : (s a : ℕ) (x : Instr) → Stands p s a x → is_communication x ≡ true →
        (m : ℕ) × (medium p s ≡ Some m)
    pub on_media : (s m : ℕ) → medium p s ≡ Some m → m < media
    pub counts : (s m : ℕ) → medium p s ≡ Some m → count_by is_communication (turn p s) ≡ transfers p m
    pub transfers : (m t : ℕ) → m < media → t < transfers p m → IsTransferred m t

  -- following receives back from the buffer, to this many buffers at most, meets a call
  abbrev pub is_made : ℕ → ℕ → Bool
  is_made zero b = false
  is_made (suc hops) b = made_from (origin p b) (λ c. is_made hops c)

  -- The buffer is written once and touched on its own operator alone; its writer reads it only after that. It has one
  -- to four places, and one where no other sequence reads it, whatever pairs are declared.
  pub record IsWrittenOnce (b : ℕ) : Type 0 where
    pub instr : Instr
    pub stands : Stands p (writing p b).writer (writing p b).at instr
    pub writes : WritesAt instr (writing p b).port b
    pub only : (s a k : ℕ) (x : Instr) → Stands p s a x → WritesAt x k b →
        (s ≡ (writing p b).writer) × (a ≡ (writing p b).at) × (k ≡ (writing p b).port)
    pub near : (s a k : ℕ) (x : Instr) → Stands p s a x → WritesAt x k b ⊎ ReadsAt x k b →
        operator_is p (slice_get p.buffers b) (operator p s)
    pub own_reads : (a k : ℕ) (x : Instr) → Stands p (writing p b).writer a x → ReadsAt x k b → (writing p b).at < a
    pub some_place : 1 ≤ depth_of p b
    pub few_places : depth_of p b ≤ 4
    pub one_place : is_guarded p b ≡ false → depth_of p b ≡ 1
    pub made : is_made (length p.buffers) b ≡ true

  -- Buffers are written once, and carry what is called for and what is sent.
  pub record AreWritten (g : Graph) (media : ℕ) : Type 0 where
    pub buffers : (b : ℕ) → b < length p.buffers → IsWrittenOnce b
    pub takes : (v : ℕ) (x : Vertex) → slice_get g.vertices v ≡ Some x →
        CarryInOrder p [] (places p) (carried p) g (calling p v).ins (map (λ d. d.source) x.guards ++ x.ins)
    pub gives : (v : ℕ) (x : Vertex) → slice_get g.vertices v ≡ Some x →
        CarryOutputs p [] (places p) (carried p) g v 0 (calling p v).outs x.outs
    pub lengths : (m t : ℕ) → m < media → t < transfers p m →
        len_of p (transfer p m t).received ≡ len_of p (transfer p m t).sent
    pub carries : (m t : ℕ) → m < media → t < transfers p m →
        carried p (transfer p m t).received ≡ carried p (transfer p m t).sent

  -- the sequence that writes the buffer of pair q
  abbrev pub writer_of : ℕ → ℕ
  writer_of q = (writing p (pair p q).buffer).writer

  -- Pair q: in the writing sequence a take, the write and a signal; in the reading one a take, all reads and a signal.
  pub record IsGuarded (q : ℕ) : Type 0 where
    pub take_empty : IsOnly p (writer_of q) (pair p q).take_empty (Suc0 q)
    pub signal_full : IsOnly p (writer_of q) (pair p q).signal_full (Pre1 q)
    pub take_full : IsOnly p (pair p q).reader (pair p q).take_full (Suc1 q)
    pub signal_empty : IsOnly p (pair p q).reader (pair p q).signal_empty (Pre0 q)
    pub before_write : (pair p q).take_empty < (writing p (pair p q).buffer).at
    pub after_write : (writing p (pair p q).buffer).at < (pair p q).signal_full
    pub reads : (a k : ℕ) (x : Instr) → Stands p (pair p q).reader a x → ReadsAt x k (pair p q).buffer →
        ((pair p q).take_full < a) × (a < (pair p q).signal_empty)

  -- There is one pair for each buffer and each sequence that reads it and does not write it, by buffer and then by
  -- sequence, on the buffer's operator.
  pub record AreGuarded : Type 0 where
    pub numbered : map (λ o. Some o) p.pairs ≡ map (λ r. operator_of p r.buffer) (readers p)
    pub pairs : (q : ℕ) → q < length p.pairs → IsGuarded q

  -- all of it, for a flat graph and an architecture with these sequences, this many operators and this many media
  pub record HasItems (g : Graph) (seqs : List Seq) (operators media : ℕ) : Type 0 where
    pub named : AreNamed (length g.vertices) operators seqs
    pub called : (v : ℕ) (x : Vertex) → slice_get g.vertices v ≡ Some x → IsCalledOnce v x
    pub transferred : AreTransferred media
    pub written : AreWritten g media
    pub guarded : AreGuarded
    pub opened : AreOpened p
