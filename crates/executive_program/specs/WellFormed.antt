-- A program is well formed for a flat graph and an architecture by a serial order of one
-- reaction. The order names at each place a sequence, whose next instruction stands there.
use Rattle.std.specs.Prelude.{
  ◌≡◌,
  ◌≢◌,
  ℕ,
  zero,
  suc,
  ◌+◌,
  ◌<◌,
  ◌≤◌,
  ◌⊎◌,
  true,
  false,
  cond,
  nat_eq,
  List,
  [],
  ◌∷◌,
  ◌++◌,
  map,
  length,
  Option,
  Some,
  None,
  slice_get,
  ℤ,
}
use Rattle.std.specs.List.{count_by}
use Rattle.flat_graph.specs.declared.vertex.Source.{Source}
use Rattle.flat_graph.specs.declared.vertex.Vertex.{Vertex}
use Rattle.flat_graph.specs.declared.vertex.Kind.TheVariants.{Get}
use Rattle.flat_graph.specs.Graph.{Graph}
use Rattle.archi_graph.specs.declared.medium.Seq.{Seq}
use Rattle.executive_program.specs.declared.program.Instr.{Instr}
use Rattle.executive_program.specs.declared.program.Instr.TheVariants.{Suc0, Suc1, Pre0, Pre1, Call, Send, Recv, Sync}
use Rattle.executive_program.specs.declared.program.Buffer.{Buffer}
use Rattle.executive_program.specs.declared.program.Program.{Program}
use Rattle.executive_program.specs.Instructions.{
  is_communication,
  turn,
  prologue,
  medium,
  operator,
  len_of,
  depth_of,
  is_guarded,
  communications,
  readers,
}
use Rattle.executive_program.specs.MicroSteps.{transfers}
use Rattle.executive_program.specs.Places.{Places, places, opening_of, carried}

-- the place in the order at which the instruction stands that has a others of s before it
abbrev pub place_in : List ℕ → ℕ → ℕ → ℕ
place_in [] s a = 0
place_in (t ∷ ts) s zero = cond (nat_eq t s) 0 (suc (place_in ts s zero))
place_in (t ∷ ts) s (suc a) = suc (place_in ts s (cond (nat_eq t s) a (suc a)))

-- output k of a call, or what a receive writes; input k of a call, or what a send reads
abbrev pub WritesAt : Instr → ℕ → ℕ → Type 0
WritesAt (Call v ins outs) k b = slice_get outs k ≡ Some b
WritesAt (Recv o q) k b = (o ≡ b) × (k ≡ 0)
WritesAt _ k b = ⊥

-- An instruction reads buffer b as its input k if b is input k of a call, guards
-- counted first, or if k is 0 and it sends b.
abbrev pub ReadsAt : Instr → ℕ → ℕ → Type 0
ReadsAt (Call v ins outs) k b = slice_get ins k ≡ Some b
ReadsAt (Send o q) k b = (o ≡ b) × (k ≡ 0)
ReadsAt _ k b = ⊥

module _ (p : Program) where
  -- Instruction a of the loop of sequence s is x.
  abbrev pub Stands : ℕ → ℕ → Instr → Type 0
  Stands s a x = slice_get (turn p s) a ≡ Some x

  -- Instruction a of sequence s is this one, and no other instruction is.
  pub record IsOnly (s a : ℕ) (x : Instr) : Type 0 where
    pub stands : Stands s a x
    pub only : (t b : ℕ) → Stands t b x → (t ≡ s) × (b ≡ a)

  -- instruction a of s, on medium m, is communication t of s
  pub record Communicates (m t s a : ℕ) (x : Instr) : Type 0 where
    pub on : medium p s ≡ Some m
    pub stands : Stands s a x
    pub is_one : is_communication x ≡ true
    pub number : communications p s a ≡ t

  -- There is a buffer, and it is on operator o.
  abbrev pub operator_is : Option Buffer → ℕ → Type 0
  operator_is None o = ⊥
  operator_is (Some x) o = x.operator ≡ o

  -- There is a buffer, and it has n elements in each of its places.
  abbrev pub len_is : Option Buffer → ℕ → Type 0
  len_is None n = ⊥
  len_is (Some x) n = x.len ≡ n

  -- Buffer b is on this operator; it is none if the program has no buffer b.
  abbrev pub operator_of : ℕ → Option ℕ
  operator_of b = of (slice_get p.buffers b)
    where
      of : Option Buffer → Option ℕ
      of None = None
      of (Some x) = Some x.operator

  module _ (order : List ℕ) where
    -- Instruction a of the loop of s has this place in the serial order; it is the
    -- length of the order if that names s too few times.
    abbrev pub place : ℕ → ℕ → ℕ
    place s a = place_in order s a

    -- instruction a of s stands in the order before instruction b of t
    abbrev pub Before : ℕ → ℕ → ℕ → ℕ → Type 0
    Before s a t b = place s a < place t b

    -- each entry names a sequence, and each sequence as often as its loop has instructions
    pub record FollowsLoops : Type 0 where
      pub names : (i s : ℕ) → slice_get order i ≡ Some s → s < length p.seqs
      pub lengths : (s : ℕ) → s < length p.seqs → count_by (λ t. nat_eq t s) order ≡ length (turn p s)

    module _ (w : Places) where
      -- Buffer b is written once, and touched on its own operator alone; where it is written and read in one
      -- sequence, it is written first. It has one to four places, and one where no pair guards it.
      pub record IsBuffer (b : ℕ) : Type 0 where
        pub instr : Instr
        pub stands : Stands (w.writing b).writer (w.writing b).at instr
        pub writes : WritesAt instr (w.writing b).port b
        pub only : (s a k : ℕ) (x : Instr) → Stands s a x → WritesAt x k b →
            (s ≡ (w.writing b).writer) × (a ≡ (w.writing b).at) × (k ≡ (w.writing b).port)
        pub near : (s a k : ℕ) (x : Instr) → Stands s a x → WritesAt x k b ⊎ ReadsAt x k b →
            operator_is (slice_get p.buffers b) (operator p s)
        pub own_reads : (a k : ℕ) (x : Instr) → Stands (w.writing b).writer a x → ReadsAt x k b → (w.writing b).at < a
        pub some_place : 1 ≤ depth_of p b
        pub few_places : depth_of p b ≤ 4
        pub one_place : is_guarded p b ≡ false → depth_of p b ≡ 1

      -- The buffer of pair q is written by this sequence.
      abbrev pub writer_of : ℕ → ℕ
      writer_of q = (w.writing (w.pair q).buffer).writer

      -- Pair q: its four places in order round the write, and the reads of its reader.
      pub record IsPair (q : ℕ) : Type 0 where
        pub take_empty : IsOnly (writer_of q) (w.pair q).take_empty (Suc0 q)
        pub signal_full : IsOnly (writer_of q) (w.pair q).signal_full (Pre1 q)
        pub take_full : IsOnly (w.pair q).reader (w.pair q).take_full (Suc1 q)
        pub signal_empty : IsOnly (w.pair q).reader (w.pair q).signal_empty (Pre0 q)
        pub before_write : (w.pair q).take_empty < (w.writing (w.pair q).buffer).at
        pub after_write : (w.writing (w.pair q).buffer).at < (w.pair q).signal_full
        pub full_first : Before (writer_of q) (w.pair q).signal_full (w.pair q).reader (w.pair q).take_full
        pub reads : (a k : ℕ) (x : Instr) → Stands (w.pair q).reader a x → ReadsAt x k (w.pair q).buffer →
            ((w.pair q).take_full < a) × (a < (w.pair q).signal_empty)

      -- Transfer t of medium m: its send, its receive, and the others, in this order, and before the next send.
      pub record IsTransfer (m t : ℕ) : Type 0 where
        pub sends : Communicates m t (w.transfer m t).sender (w.transfer m t).send_at
            (Send (w.transfer m t).sent (operator p (w.transfer m t).receiver))
        pub receives : Communicates m t (w.transfer m t).receiver (w.transfer m t).receive_at
            (Recv (w.transfer m t).received (operator p (w.transfer m t).sender))
        pub others : (s a : ℕ) (x : Instr) → Communicates m t s a x →
            s ≢ (w.transfer m t).sender → s ≢ (w.transfer m t).receiver →
            (x ≡ Sync (operator p (w.transfer m t).sender) (operator p (w.transfer m t).receiver)) ×
            Before (w.transfer m t).receiver (w.transfer m t).receive_at s a
        pub in_order : Before (w.transfer m t).sender (w.transfer m t).send_at
            (w.transfer m t).receiver (w.transfer m t).receive_at
        pub next : t + 1 < transfers p m → Before (w.transfer m t).receiver (w.transfer m t).receive_at
            (w.transfer m (t + 1)).sender (w.transfer m (t + 1)).send_at
        pub lengths : len_of p (w.transfer m t).received ≡ len_of p (w.transfer m t).sent

      -- What buffers carry: `carried b` is the source.
      module _ (carried : ℕ → Source) (g : Graph) where
        -- the length of the output that a source names
        abbrev pub HasLength : Source → ℕ → Type 0
        HasLength x n = of (slice_get g.vertices x.vertex)
          where
            of : Option Vertex → Type 0
            of None = ⊥
            of (Some v) = slice_get v.outs x.port ≡ Some n

        -- Buffers with these numbers are there, carry these sources in this order, and have their
        -- lengths.
        abbrev pub CarryInOrder : List ℕ → List Source → Type 0
        CarryInOrder [] [] = Unit {0}
        CarryInOrder (b ∷ bs) (x ∷ xs) = (b < length p.buffers) × (carried b ≡ x) × HasLength x (len_of p b) ×
            CarryInOrder bs xs
        CarryInOrder [] (x ∷ xs) = ⊥
        CarryInOrder (b ∷ bs) [] = ⊥

        -- Buffers with these numbers carry the outputs of operation v from `port` on, and have
        -- these lengths.
        abbrev pub CarryOutputs : ℕ → ℕ → List ℕ → List ℕ → Type 0
        CarryOutputs v port [] [] = Unit {0}
        CarryOutputs v port (b ∷ bs) (n ∷ ns) = (carried b ≡ record { vertex = v; port = port }) ×
            len_is (slice_get p.buffers b) n × CarryOutputs v (port + 1) bs ns
        CarryOutputs v port [] (n ∷ ns) = ⊥
        CarryOutputs v port (b ∷ bs) [] = ⊥

        -- Each operation is called once, in a computation sequence, on what carries its
        -- guards' sources and its inputs, into what carries its outputs.
        pub record IsCalled (v : ℕ) (x : Vertex) : Type 0 where
          pub stands : Stands (w.calling v).sequence (w.calling v).at (Call v (w.calling v).ins (w.calling v).outs)
          pub only : (s a : ℕ) (ins outs : List ℕ) → Stands s a (Call v ins outs) →
              (s ≡ (w.calling v).sequence) × (a ≡ (w.calling v).at)
          pub computes : medium p (w.calling v).sequence ≡ None
          pub takes : CarryInOrder (w.calling v).ins (map (λ d. d.source) x.guards ++ x.ins)
          pub gives : CarryOutputs v 0 (w.calling v).outs x.outs
          -- the halves of a delay are called in one sequence, the get half first
          pub twins : (z : List ℤ) (u : ℕ) → x.kind ≡ Get z → x.twin ≡ Some u →
              ((w.calling v).sequence ≡ (w.calling u).sequence) × ((w.calling v).at < (w.calling u).at)

        -- what an instruction names is there
        abbrev pub NamesIn : Instr → Type 0
        NamesIn (Suc0 q) = q < length p.pairs
        NamesIn (Suc1 q) = q < length p.pairs
        NamesIn (Pre0 q) = q < length p.pairs
        NamesIn (Pre1 q) = q < length p.pairs
        NamesIn (Call v ins outs) = (v < length g.vertices) ×
            ((k b : ℕ) → (slice_get ins k ≡ Some b) ⊎ (slice_get outs k ≡ Some b) → b < length p.buffers)
        NamesIn (Send b q) = b < length p.buffers
        NamesIn (Recv b q) = b < length p.buffers
        NamesIn (Sync q r) = Unit {0}

        -- `seqs` and `media` are the architecture's: its sequences in order, and the number of its media
        pub record IsOrderBy (seqs : List Seq) (media : ℕ) : Type 0 where
          pub sequences : map (λ q. q.seq) p.seqs ≡ seqs
          pub follows : FollowsLoops
          pub named : (s a : ℕ) (x : Instr) → Stands s a x → NamesIn x
          pub called : (v : ℕ) (x : Vertex) → slice_get g.vertices v ≡ Some x → IsCalled v x
          pub buffers : (b : ℕ) → b < length p.buffers → IsBuffer b
          -- there is one pair for each buffer and each reading sequence that is not the
          -- writing one, by buffer and then by sequence, on the buffer's operator
          pub numbered : map (λ o. Some o) p.pairs ≡ map (λ r. operator_of r.buffer) (readers p)
          pub pairs : (q : ℕ) → q < length p.pairs → IsPair q
          pub prologues : (s : ℕ) → s < length p.seqs →
              Rattle.executive_program.specs.Instructions.prologue p s ≡ opening_of p s
          -- communications stand in communicators alone; each communicator of a medium has one in each transfer
          pub communicators : (s a : ℕ) (x : Instr) → Stands s a x → is_communication x ≡ true →
              (m : ℕ) × (medium p s ≡ Some m)
          pub on_media : (s m : ℕ) → medium p s ≡ Some m → m < media
          pub counts : (s m : ℕ) → medium p s ≡ Some m → count_by is_communication (turn p s) ≡ transfers p m
          pub transferred : (m t : ℕ) → m < media → t < transfers p m → IsTransfer m t
          -- a received buffer carries what the sent one does
          pub carries : (m t : ℕ) → m < media → t < transfers p m →
              carried (w.transfer m t).received ≡ carried (w.transfer m t).sent

-- The program is well formed with this serial order.
abbrev pub IsOrder : (p : Program) → Graph → List Seq → ℕ → List ℕ → Type 0
IsOrder p g seqs media order = IsOrderBy p order (places p) (carried p) g seqs media

-- The program is well formed: it has a serial order.
abbrev pub IsWellFormed : (p : Program) → Graph → List Seq → ℕ → Type 0
IsWellFormed p g seqs media = (order : List ℕ) × IsOrder p g seqs media order
