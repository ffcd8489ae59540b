-- Which sequences read a buffer that they do not write, found in the places at which it is read; and the tables of
-- pairs.
use Rattle.std.specs.Prelude.{
  ◌≡◌,
  ℕ,
  ◌<◌,
  Bool,
  true,
  ◌&&◌,
  not,
  cond,
  nat_eq,
  List,
  [],
  ◌∷◌,
  map,
  length,
  Option,
  Some,
  None,
}
use Rattle.std.specs.List.{list_any}
use Rattle.program_tables.specs.declared.mark_table.Mark.{Mark}
use Rattle.program_tables.specs.MarkRows.{row}
use Rattle.executive_program.specs.declared.program.Program.{Program}
use Rattle.executive_program.specs.Instructions.{Reader, readers}
use Rattle.program_tables.specs.declared.roles.Role.TheVariants.{EmptyTaken, FullSignalled, FullTaken, EmptySignalled}
use Rattle.program_tables.specs.Marks.{marks_of}
use Rattle.program_tables.specs.declared.readings.Reading.{Reading}
use Rattle.program_tables.specs.declared.pairs.PairTables.{PairTables}

abbrev pub is_new : Option ℕ → ℕ → Bool
is_new None s = true
is_new (Some t) s = not (nat_eq t s)

-- This is the reading of buffer b by sequence s.
abbrev pub reading : ℕ → ℕ → Reading
reading b s = record { buffer = b; sequence = s }

-- of these reads of buffer b, in the order of sequences, each sequence once that is not the last one and does not
-- write it
abbrev pub readings_in : ℕ → List Mark → Option ℕ → List Mark → List Reading
readings_in b writes last [] = []
readings_in b writes last (m ∷ ms) =
    cond (is_new last m.sequence && not (list_any (λ w. nat_eq w.sequence m.sequence) writes))
    (reading b m.sequence ∷ readings_in b writes (Some m.sequence) ms)
    (readings_in b writes (Some m.sequence) ms)

-- A reader of the definitions is this reading of the tables, with the same buffer and sequence.
abbrev pub reading_of : Reader → Reading
reading_of r = reading r.buffer r.sequence

-- These are the readers of the program, as the tables have them: by buffer and then by
-- sequence, one for each pair that there has to be.
abbrev pub readings : Program → List Reading
readings p = map reading_of (readers p)

-- the tables have the places of the four instructions of each pair
pub record ArePairs (p : Program) (t : PairTables) : Type 0 where
  pub empty_taken : (q : ℕ) → q < length p.pairs → row t.empty_taken q ≡ marks_of p EmptyTaken q
  pub full_signalled : (q : ℕ) → q < length p.pairs → row t.full_signalled q ≡ marks_of p FullSignalled q
  pub full_taken : (q : ℕ) → q < length p.pairs → row t.full_taken q ≡ marks_of p FullTaken q
  pub empty_signalled : (q : ℕ) → q < length p.pairs → row t.empty_signalled q ≡ marks_of p EmptySignalled q
