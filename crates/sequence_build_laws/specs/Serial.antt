-- The serial order of one reaction: the instructions of the acts of
-- a schedule, each between the semaphore lines of its block.
use Rattle.std.specs.Prelude.{ℕ, suc, Bool, ◌&&◌, not, cond, nat_eq, List, [], ◌∷◌, ◌++◌, map, Some, None}
use Rattle.std.specs.List.{flat_map, list_any, filter, position_or_len}
use Rattle.schedule.specs.Graph.{Graph, len_of}
use Rattle.schedule.specs.declared.Seq.{Seq}
use Rattle.schedule.specs.Archi.{Architecture}
use Rattle.schedule.specs.Sequences.{sequences}
use Rattle.schedule.specs.declared.decision.Transfer.{Transfer}
use Rattle.schedule.specs.declared.decision.Schedule.{Schedule}
use Rattle.sequence_build_laws.specs.InTurn.{Standing, in_turn}
use Rattle.schedule.specs.Acts.{Act, carry, run, acts, Copy, copy, same_copy, read_by, made_by}
use Rattle.executive_program.specs.declared.program.Instr.{Instr}
use Rattle.executive_program.specs.declared.program.Instr.TheVariants.{Suc0, Suc1, Pre0, Pre1, Call, Send, Recv, Sync}
use Rattle.executive_program.specs.declared.program.Buffer.{Buffer}
use Rattle.executive_program.specs.declared.program.SeqCode.{SeqCode}
use Rattle.executive_program.specs.declared.program.Program.{Program}
use Rattle.executive_program.specs.Instructions.{reads, writes, Reader, readers, same_medium}

-- an instruction of a sequence
pub record Step : Type 0 where
  pub sequence : ℕ
  pub instr : Instr

-- Instruction x is made by sequence s.
abbrev pub step : ℕ → Instr → Step
step s x = record { sequence = s; instr = x }

-- the loop of sequence s in a serial order
abbrev pub projection : List Step → ℕ → List Instr
projection xs s = map (λ x. x.instr) (filter (λ (x : Step). nat_eq x.sequence s) xs)

-- the numbers of the elements that pass, of which the first has number n
abbrev pub numbers_where : {A : Type 0} → (A → Bool) → ℕ → List A → List ℕ
numbers_where test n [] = []
numbers_where test n (x ∷ xs) = cond (test x) (n ∷ numbers_where test (suc n) xs) (numbers_where test (suc n) xs)

-- Two sequences are the same if they belong to one operator, and either to one medium
-- or both to none.
abbrev pub same_seq : Seq → Seq → Bool
same_seq q r = nat_eq q.operator r.operator && same_medium q.medium r.medium

-- the code of these sequences, of which the first has number s, with these prologues and these loops
abbrev pub codes : (ℕ → List Instr) → (ℕ → List Instr) → ℕ → List Seq → List SeqCode
codes prologue turn s [] = []
codes prologue turn s (q ∷ qs) =
    record { seq = q; prologue = prologue s; turn = turn s } ∷ codes prologue turn (suc s) qs

-- a communicator of the transfer's medium, at an operator that is neither its sender nor its receiver
abbrev pub is_other : Transfer → Seq → Bool
is_other t q = same_medium q.medium (Some t.medium) && not (nat_eq q.operator t.from) && not (nat_eq q.operator t.to)

-- this sequence reads the buffer here
abbrev pub reads_for : Reader → Step → Bool
reads_for r x = nat_eq x.sequence r.sequence && reads r.buffer x.instr

-- it reads it here for the first time, for the last time; the buffer is written here
abbrev pub reads_first : Standing Step → Reader → Bool
reads_first v r = reads_for r v.it && not (list_any (reads_for r) v.before)

-- The pair's reader reads the buffer here, and nowhere later in the order.
abbrev pub reads_last : Standing Step → Reader → Bool
reads_last v r = reads_for r v.it && not (list_any (reads_for r) v.after)

-- The pair's buffer is written here.
abbrev pub is_filled : Standing Step → Reader → Bool
is_filled v r = writes r.buffer v.it.instr

-- Of these pairs, each with a buffer and its reading sequence: those
-- that pass, and the semaphore lines round an instruction.
module _ (pairs : List Reader) where
  -- These are the numbers of the pairs that pass the test, in ascending order.
  abbrev pub pairs_where : (Reader → Bool) → List ℕ
  pairs_where test = numbers_where test 0 pairs

  -- Directly before an instruction the full semaphores of what its sequence
  -- reads there first are taken, and the empty ones of what is written;
  -- directly after it the empty ones of what its sequence reads there
  -- last are signalled, and the full ones of what was written.
  abbrev pub block : Standing Step → List Instr
  block v =
      map Suc1 (pairs_where (reads_first v)) ++
      (map Suc0 (pairs_where (is_filled v)) ++
      (v.it.instr ∷ (map Pre0 (pairs_where (reads_last v)) ++ map Pre1 (pairs_where (is_filled v)))))

  -- An instruction and its semaphore lines are all made by the instruction's sequence,
  -- in this order.
  abbrev pub steps_at : Standing Step → List Step
  steps_at v = map (step v.it.sequence) (block v)

module _ (g : Graph) (a : Architecture) (s : Schedule) where
  -- the copies of values in the order in which they are made: buffer b is for copy b
  abbrev pub copies : List Copy
  copies = flat_map (made_by g.vertices) (acts s)

  -- A copy has the buffer of this number; it is the number of copies if the schedule
  -- does not make this one.
  abbrev pub buffer_for : Copy → ℕ
  buffer_for c = position_or_len (same_copy c) copies

  -- A sequence has this number in the architecture; it is the number of sequences if
  -- it is none of them.
  abbrev pub number_of : Seq → ℕ
  number_of q = position_or_len (same_seq q) (sequences a)

  -- A transfer is sent, received, and waited for in the other
  -- communicators of its medium, by number. An operation is called.
  abbrev pub steps_of : Act → List Step
  steps_of (carry t) =
      step (number_of (record { operator = t.from; medium = Some t.medium }))
      (Send (buffer_for (copy t.from t.source)) t.to)
      ∷ step (number_of (record { operator = t.to; medium = Some t.medium }))
      (Recv (buffer_for (copy t.to t.source)) t.from)
      ∷ map (λ q. step q (Sync t.from t.to)) (numbers_where (is_other t) 0 (sequences a))
  steps_of (run d) = step (number_of (record { operator = d.operator; medium = None }))
      (Call d.op (map buffer_for (read_by g.vertices (run d))) (map buffer_for (made_by g.vertices (run d)))) ∷ []

  -- the order without semaphores
  abbrev pub plain_steps : List Step
  plain_steps = flat_map steps_of (acts s)

  -- The buffer of a copy of this value, with this many places.
  abbrev pub buffer : ℕ → Copy → Buffer
  buffer depth c = record { operator = c.operator; len = len_of g.vertices c.source; depth = depth }

  -- This is the program of the schedule without semaphores: no pairs, empty prologues,
  -- and each buffer with one place.
  abbrev pub plain_program : Program
  plain_program = record {
    buffers = map (buffer 1) copies;
    pairs = [];
    seqs = codes (λ _. []) (projection plain_steps) 0 (sequences a);
  }

  -- the pairs of semaphores: each buffer with each sequence that reads
  -- it and does not write it, by buffer and then by sequence
  abbrev pub pairs : List Reader
  pairs = readers plain_program

  -- The micro-steps of one reaction in the serial order: of each step of the plain order, those
  -- that the pairs add to it.
  abbrev pub serial : List Step
  serial = flat_map (steps_at pairs) (in_turn plain_steps)
