-- Where pairs of semaphores and prologues are wrong.
use Rattle.std.specs.Prelude.{
  ℕ,
  ◌+◌,
  Bool,
  ◌&&◌,
  not,
  cond,
  nat_eq,
  nat_lt,
  List,
  [],
  ◌∷◌,
  length,
  Option,
  Some,
  None,
  slice_get,
}
use Rattle.std.specs.List.{list_all}
use Rattle.sequence_build_laws.specs.declared.Instr.{Instr}
use Rattle.sequence_build_laws.specs.declared.SeqCode.{SeqCode}
use Rattle.sequence_build_laws.specs.declared.Program.{Program}
use Rattle.sequence_build_laws.specs.Blocks.{blocks, repeated}
use Rattle.sequence_build_laws.specs.Instructions.{Reader, readers}
use Rattle.sequence_build_laws.specs.MicroSteps.{first_of}
use Rattle.sequence_build_laws.specs.Places.{opening_signals, signals_empty, written_at, writer_of}
use Rattle.sequence_build_laws.specs.WellFormed.{operator_of}
use Rattle.program_tables.specs.declared.mark_table.Mark.{Mark}
use Rattle.program_tables.specs.declared.roles.Role.TheVariants.{
  Read,
  EmptyTaken,
  FullSignalled,
  FullTaken,
  EmptySignalled,
}
use Rattle.program_tables.specs.Marks.{first_at, lone, marks_of}
use Rattle.program_walks.specs.Walks.{implies}
use Rattle.program_walks.specs.Pairs.{has_operator}
use Rattle.check_places.specs.declared.place.Part.TheVariants.{Prologue}
use Rattle.check_places.specs.declared.place.Place.{Place}
use Rattle.check_places.specs.declared.place.Spot.{Spot}
use Rattle.check_places.specs.declared.place.Rule.TheVariants.{
  MissingPair,
  PairElsewhere,
  EmptyNotTaken,
  FullNotSignalled,
  FullNotTaken,
  EmptyNotSignalled,
  FurtherPair,
  MissingSignal,
  FurtherLine,
}
use Rattle.check_places.specs.declared.place.Subject.TheVariants.{Pair, Sequence}
use Rattle.check_places.specs.First.{broken, first_failing, first_from, in_loop, spot_at, unless}

-- These places are one instruction of sequence s, before its instruction a.
abbrev pub is_taken_before : ℕ → ℕ → List Mark → Bool
is_taken_before s a takes = lone s takes && nat_lt (first_at takes) a

-- These places are one instruction of sequence s, after its instruction a.
abbrev pub is_signalled_after : ℕ → ℕ → List Mark → Bool
is_signalled_after s a signals = lone s signals && nat_lt a (first_at signals)

-- These takes are one instruction of sequence s, before all of its reads among these places.
abbrev pub is_taken_first : ℕ → List Mark → List Mark → Bool
is_taken_first s reads takes =
    lone s takes && list_all (λ m. implies (nat_eq m.sequence s) (nat_lt (first_at takes) m.at)) reads

-- These signals are one instruction of sequence s, after all of its reads among these places.
abbrev pub is_signalled_last : ℕ → List Mark → List Mark → Bool
is_signalled_last s reads signals =
    lone s signals && list_all (λ m. implies (nat_eq m.sequence s) (nat_lt m.at (first_at signals))) reads

-- The instruction of a loop at this mark, and None if there is no mark.
abbrev pub spot_of : Option Mark → Option Spot
spot_of None = None
spot_of (Some m) = in_loop m.sequence m.at

-- the first of these places in sequence s
abbrev pub spot_in : ℕ → List Mark → Option Spot
spot_in s marks = spot_of (first_failing (λ m. not (nat_eq m.sequence s)) marks)

module _ (p : Program) where
  -- pair q of this buffer is there, on the operator of the buffer, which its reader reads first there
  abbrev pub declared_place : ℕ → ℕ → Option Spot → Option Place
  declared_place q b read =
      first_of (unless (nat_lt q (length p.pairs)) (broken MissingPair (Pair q) read))
      (unless (has_operator (slice_get p.pairs q) (operator_of p b)) (broken PairElsewhere (Pair q) read))

  -- instruction a of s writes the buffer of pair q: s takes the empty semaphore before it, and signals the full one
  -- after it
  abbrev pub writer_place : ℕ → ℕ → ℕ → Option Place
  writer_place q s a =
      first_of
      (unless (is_taken_before s a (marks_of p EmptyTaken q)) (broken EmptyNotTaken (Pair q) (in_loop s a)))
      (unless (is_signalled_after s a (marks_of p FullSignalled q)) (broken FullNotSignalled (Pair q) (in_loop s a)))

  -- sequence s reads it, first there: it takes the full semaphore before its reads, and signals the empty one after
  -- them
  abbrev pub reader_place : ℕ → ℕ → List Mark → Option Spot → Option Place
  reader_place q s reads read =
      first_of (unless (is_taken_first s reads (marks_of p FullTaken q)) (broken FullNotTaken (Pair q) read))
      (unless (is_signalled_last s reads (marks_of p EmptySignalled q)) (broken EmptyNotSignalled (Pair q) read))

  -- The first place at which pair q is wrong for a buffer that is read at these places and for this
  -- reader of it, and None if there is none: of its declaration, then its writer, then its reader.
  abbrev pub pair_place_by : ℕ → Reader → List Mark → Option Place
  pair_place_by q x reads =
      first_of (declared_place q x.buffer (spot_in x.sequence reads))
      (first_of (writer_place q (writer_of p x.buffer) (written_at p x.buffer))
      (reader_place q x.sequence reads (spot_in x.sequence reads)))

  -- the pair of a buffer and a sequence that reads it
  abbrev pub pair_place : ℕ → Reader → Option Place
  pair_place q x = pair_place_by q x (marks_of p Read x.buffer)

  -- of each, and then a pair that is too many
  abbrev pub pairs_place : Option Place
  pairs_place =
      first_of (first_from pair_place 0 (readers p))
      (unless (not (nat_lt (length (readers p)) (length p.pairs)))
      (broken FurtherPair (Pair (length (readers p))) None))

  -- the pairs that the prologue of s signals, in order: each once for each place of its buffer
  abbrev pub pairs_signalled : ℕ → List ℕ
  pairs_signalled s = blocks (λ q. repeated q (opening_signals p s q)) (length (readers p))

-- the first of these instructions of a prologue, the first of which has place a, that does not signal its pair
abbrev pub signal_place : ℕ → ℕ → List Instr → List ℕ → Option Place
signal_place s a [] [] = None
signal_place s a (x ∷ xs) [] = broken FurtherLine (Sequence s) (spot_at Prologue s a)
signal_place s a [] (q ∷ qs) = broken MissingSignal (Pair q) (spot_at Prologue s a)
signal_place s a (x ∷ xs) (q ∷ qs) =
    cond (signals_empty q x) (signal_place s (a + 1) xs qs) (broken MissingSignal (Pair q) (spot_at Prologue s a))

-- The first place at which a prologue is not as it has to be, by sequence and then by instruction,
-- and None if there is none.
abbrev pub prologue_place : Program → Option Place
prologue_place p = first_from (λ s (c : SeqCode). signal_place s 0 c.prologue (pairs_signalled p s)) 0 p.seqs
