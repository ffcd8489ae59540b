-- The text of a program, processor by processor: the pairs and the buffers of the operator, a thread for each of its
-- communicators, and its main part.
use Rattle.std.specs.Prelude.{
  ℕ,
  suc,
  cond,
  nat_eq,
  nat_lt,
  List,
  [],
  ◌∷◌,
  ◌++◌,
  map,
  codes,
  Option,
  Some,
  None,
  slice_get,
  slice_index_or,
}
use Rattle.std.specs.Fmt.{decimal}
use Rattle.std.specs.List.{flat_map}
use Rattle.syn_base.specs.Bytes.{Bytes, each_after_comma}
use Rattle.executive_program.specs.declared.Vertex.{Vertex}
use Rattle.executive_program.specs.Graph.{Graph, with_vertex}
use Rattle.executive_program.specs.declared.Medium.{Medium}
use Rattle.executive_program.specs.Archi.{Architecture, name_or_none}
use Rattle.executive_program.specs.declared.program.Instr.{Instr}
use Rattle.executive_program.specs.declared.program.Instr.TheVariants.{Suc0, Suc1, Pre0, Pre1, Call, Send, Recv, Sync}
use Rattle.executive_program.specs.declared.program.Buffer.{Buffer}
use Rattle.executive_program.specs.declared.program.SeqCode.{SeqCode}
use Rattle.executive_program.specs.declared.program.Program.{Program}
use Rattle.macro_code.specs.declared.macros.Macro.{Macro}
use Rattle.macro_code.specs.declared.macros.Macro.TheVariants as macros
use Rattle.macro_code.specs.declared.named.Named.{Named}
use Rattle.macro_code.specs.Macros.{word_of}

-- the operations, the operators' names and the media, by number
pub record Names : Type 0 where
  pub vertices : List Vertex
  pub operators : List Bytes
  pub media : List Medium

abbrev pub names_of : Named → Names
names_of n = record { vertices = n.vertices.now; operators = n.operators.now; media = n.media.now }

-- These words, joined by commas.
abbrev pub joined : List Bytes → Bytes
joined [] = []
joined (w ∷ ws) = w ++ each_after_comma ws

-- a macro without arguments, and with arguments
abbrev pub word_line : Macro → Bytes
word_line x = word_of x ++ codes "\n"

-- A line of a macro has its arguments between parentheses, separated by commas; the
-- parentheses are there without an argument too.
abbrev pub line : Macro → List Bytes → Bytes
line x arguments = word_of x ++ (codes "(" ++ (joined arguments ++ codes ")\n"))

-- A buffer is called by the letter b and its number in decimal.
abbrev pub buffer_name : ℕ → Bytes
buffer_name b = codes "b" ++ decimal b

-- the buffer's places, where it has several
abbrev pub places_of : ℕ → List Bytes
places_of depth = cond (nat_lt 1 depth) (decimal depth ∷ []) []

-- Buffer b is declared by this line, with its length, and with its number of places if
-- that is above 1.
abbrev pub alloc_line : ℕ → Buffer → Bytes
alloc_line b x = line macros.Alloc (buffer_name b ∷ decimal x.len ∷ places_of x.depth)

-- of these buffers, of which the first has number b, those of an operator
abbrev pub alloc_lines : ℕ → ℕ → List Buffer → Bytes
alloc_lines o b [] = []
alloc_lines o b (x ∷ xs) = cond (nat_eq x.operator o) (alloc_line b x) [] ++ alloc_lines o (suc b) xs

-- of these pairs, of which the first has number q, those of an operator
abbrev pub pairs_on : ℕ → ℕ → List ℕ → List ℕ
pairs_on o q [] = []
pairs_on o q (x ∷ xs) = cond (nat_eq x o) (q ∷ []) [] ++ pairs_on o (suc q) xs

-- the pairs of an operator, and then its buffers
abbrev pub declarations : ℕ → List ℕ → List Buffer → Bytes
declarations o pairs buffers = line macros.Semaphores (map decimal (pairs_on o 0 pairs)) ++ alloc_lines o 0 buffers

module _ (n : Names) where
  -- what is not there has an empty name
  abbrev pub operation_name : ℕ → Bytes
  operation_name v = with_vertex (slice_get n.vertices v) [] (λ x. x.name)

  -- An operator has this name, which is empty if there is no operator of this number.
  abbrev pub operator_name : ℕ → Bytes
  operator_name o = slice_index_or n.operators o []

  -- A medium has this name, which is empty if there is no medium of this number.
  abbrev pub medium_name : ℕ → Bytes
  medium_name m = name_or_none (slice_get n.media m)

  -- an operation with the buffers that it reads and those that it writes
  abbrev pub call_line : ℕ → List ℕ → List ℕ → Bytes
  call_line v ins outs =
      codes "op " ++ (operation_name v ++
      (codes "(" ++ (joined (map buffer_name ins) ++ (codes ";" ++ (joined (map buffer_name outs) ++ codes ")\n")))))

  -- An instruction is written as this line.
  abbrev pub instr_line : Instr → Bytes
  instr_line (Suc0 q) = line macros.Suc0 (decimal q ∷ [])
  instr_line (Suc1 q) = line macros.Suc1 (decimal q ∷ [])
  instr_line (Pre0 q) = line macros.Pre0 (decimal q ∷ [])
  instr_line (Pre1 q) = line macros.Pre1 (decimal q ∷ [])
  instr_line (Send b o) = line macros.Send (buffer_name b ∷ operator_name o ∷ [])
  instr_line (Recv b o) = line macros.Recv (buffer_name b ∷ operator_name o ∷ [])
  instr_line (Sync o r) = line macros.Sync (operator_name o ∷ operator_name r ∷ [])
  instr_line (Call v ins outs) = call_line v ins outs

  -- Instructions are written as one line each, in order.
  abbrev pub body_text : List Instr → Bytes
  body_text xs = flat_map instr_line xs

  -- the prologue, and then the loop
  abbrev pub code_text : SeqCode → Bytes
  code_text q = body_text q.prologue ++ (word_line macros.Loop ++ (body_text q.turn ++ word_line macros.EndLoop))

  -- a communicator is a thread of its medium
  abbrev pub thread_by : SeqCode → Option ℕ → Bytes
  thread_by q None = []
  thread_by q (Some m) = line macros.Thread (medium_name m ∷ []) ++ (code_text q ++ word_line macros.EndThread)

  -- A sequence is written as a thread of operator o if it is a communicator there;
  -- otherwise nothing is written.
  abbrev pub thread_text : ℕ → SeqCode → Bytes
  thread_text o q = cond (nat_eq q.seq.operator o) (thread_by q q.seq.medium) []

  -- a line that names the medium of a communicator
  abbrev pub medium_by : Macro → Option ℕ → Bytes
  medium_by x None = []
  medium_by x (Some m) = line x (medium_name m ∷ [])

  -- The medium of a sequence is named in a line of macro x if the sequence is a
  -- communicator of operator o; otherwise nothing is written.
  abbrev pub medium_line : Macro → ℕ → SeqCode → Bytes
  medium_line x o q = cond (nat_eq q.seq.operator o) (medium_by x q.seq.medium) []

  -- The media of the communicators of operator o are named in a line of macro x each,
  -- in the order of the sequences.
  abbrev pub medium_lines : Macro → ℕ → List SeqCode → Bytes
  medium_lines x o qs = flat_map (medium_line x o) qs

  -- The computation sequence is the main part: it starts the threads of these sequences, and waits for them at the end.
  abbrev pub main_by : List SeqCode → ℕ → SeqCode → Option ℕ → Bytes
  main_by qs o q None =
      word_line macros.Main ++ (medium_lines macros.SpawnThread o qs ++
      (code_text q ++ (medium_lines macros.WaitEndThread o qs ++ word_line macros.EndMain)))
  main_by qs o q (Some m) = []

  -- A sequence is written as the main part of operator o if it is the computation
  -- sequence there; otherwise nothing is written.
  abbrev pub main_text : List SeqCode → ℕ → SeqCode → Bytes
  main_text qs o q = cond (nat_eq q.seq.operator o) (main_by qs o q q.seq.medium) []

  -- the threads of an operator, and then its main part
  abbrev pub sequences_text : List SeqCode → ℕ → Bytes
  sequences_text qs o = flat_map (thread_text o) qs ++ flat_map (main_text qs o) qs

  module _ (p : Program) where
    -- the text of an operator
    abbrev pub processor_text : ℕ → Bytes
    processor_text o =
        line macros.Processor (operator_name o ∷ []) ++ (declarations o p.pairs p.buffers ++ sequences_text p.seqs o)

    -- of operators with these names, of which the first has number o
    abbrev pub processors_from : ℕ → List Bytes → Bytes
    processors_from o [] = []
    processors_from o (x ∷ xs) = processor_text o ++ processors_from (suc o) xs

-- the macro-code of a program
abbrev pub macro_code : Program → Graph → Architecture → Bytes
macro_code p g a =
    processors_from (record { vertices = g.vertices; operators = a.operators; media = a.media }) p 0 a.operators
