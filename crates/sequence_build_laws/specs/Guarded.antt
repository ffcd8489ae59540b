-- Semaphores round the instructions of a program, sequence by sequence: of a
-- sequence's lines, only its own instructions and the pairs matter.
use Rattle.std.specs.Prelude.{
  ◌≡◌,
  ℕ,
  suc,
  Bool,
  ◌&&◌,
  not,
  cond,
  nat_eq,
  List,
  [],
  ◌∷◌,
  ◌++◌,
  map,
  Option,
  Some,
  None,
  slice_get,
}
use Rattle.std.specs.List.{flat_map, list_any}
use Rattle.executive_program.specs.declared.program.Instr.{Instr}
use Rattle.executive_program.specs.declared.program.Instr.TheVariants.{Suc0, Suc1, Pre0, Pre1}
use Rattle.executive_program.specs.declared.program.Buffer.{Buffer}
use Rattle.executive_program.specs.declared.program.SeqCode.{SeqCode}
use Rattle.executive_program.specs.declared.program.Program.{Program}
use Rattle.executive_program.specs.Blocks.{repeated}
use Rattle.executive_program.specs.Instructions.{reads, writes, Reader, readers}
use Rattle.schedule.specs.Graph.{Graph}
use Rattle.schedule.specs.Archi.{Architecture}
use Rattle.schedule.specs.declared.decision.Schedule.{Schedule}
use Rattle.sequence_build_laws.specs.InTurn.{Standing, in_turn}
use Rattle.sequence_build_laws.specs.Serial.{plain_program, pairs_where}
use Rattle.sequence_build_laws.specs.Built.{program_of}

-- Of these pairs, in sequence s.
module _ (pairs : List Reader) (s : ℕ) where
  -- the sequence is the pair's reader, and the instruction reads its buffer
  abbrev pub reads_in : Reader → Instr → Bool
  reads_in r x = nat_eq s r.sequence && reads r.buffer x

  -- it is the first that does in the loop, or the last; it writes the buffer
  abbrev pub is_first : Standing Instr → Reader → Bool
  is_first v r = reads_in r v.it && not (list_any (reads_in r) v.before)

  -- The sequence is the pair's reader, and this is the last instruction of the loop
  -- that reads the pair's buffer.
  abbrev pub is_last : Standing Instr → Reader → Bool
  is_last v r = reads_in r v.it && not (list_any (reads_in r) v.after)

  -- The instruction writes the pair's buffer, so that the sequence is the pair's writer.
  abbrev pub fills : Standing Instr → Reader → Bool
  fills v r = writes r.buffer v.it

  -- an instruction between its semaphore lines
  abbrev pub lines_at : Standing Instr → List Instr
  lines_at v =
      map Suc1 (pairs_where pairs (is_first v)) ++
      (map Suc0 (pairs_where pairs (fills v)) ++
      (v.it ∷ (map Pre0 (pairs_where pairs (is_last v)) ++ map Pre1 (pairs_where pairs (fills v)))))

  -- A loop gets the semaphore lines of these pairs, directly before and after the
  -- instructions that need them.
  abbrev pub guarded_loop : List Instr → List Instr
  guarded_loop xs = flat_map lines_at (in_turn xs)

  -- for each pair of which the sequence is the reader, by number, the empty semaphore is signalled once for each place
  abbrev pub opening : ℕ → List Instr
  opening depth = flat_map (λ q. repeated (Pre0 q) depth) (pairs_where pairs (λ r. nat_eq r.sequence s))

-- These sequences, of which the first has number s, get the semaphore lines of these pairs in
-- their loops, and prologues that open each pair once for each of `depth` places.
abbrev pub guarded_codes : ℕ → List Reader → ℕ → List SeqCode → List SeqCode
guarded_codes depth pairs s [] = []
guarded_codes depth pairs s (q ∷ qs) =
    record { seq = q.seq; prologue = opening pairs s depth; turn = guarded_loop pairs s q.turn } ∷
    guarded_codes depth pairs (suc s) qs

-- the buffers of pairs have this many places, and the others one
abbrev pub guarded_buffers : ℕ → List Reader → ℕ → List Buffer → List Buffer
guarded_buffers depth pairs b [] = []
guarded_buffers depth pairs b (x ∷ xs) =
    record {
      operator = x.operator;
      len = x.len;
      depth = cond (list_any (λ (r : Reader). nat_eq r.buffer b) pairs) depth 1;
    } ∷ guarded_buffers depth pairs (suc b) xs

-- A buffer is on this operator; it is 0 if there is no buffer.
abbrev pub operator_in : Option Buffer → ℕ
operator_in None = 0
operator_in (Some x) = x.operator

-- the program with semaphores, where buffers of pairs have this many places
abbrev pub guarded : ℕ → Program → Program
guarded depth p = record {
  buffers = guarded_buffers depth (readers p) 0 p.buffers;
  pairs = map (λ (r : Reader). operator_in (slice_get p.buffers r.buffer)) (readers p);
  seqs = guarded_codes depth (readers p) 0 p.seqs;
}

-- the program of a schedule is its plain program with semaphores
abbrev pub BuiltAreGuarded : Type 0
BuiltAreGuarded = (g : Graph) (a : Architecture) (s : Schedule) →
    program_of g a s ≡ guarded a.depth (plain_program g a s)
