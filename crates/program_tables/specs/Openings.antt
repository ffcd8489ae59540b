-- How far the prologues have been passed over.
use Rattle.std.specs.Prelude.{◌≡◌, ℕ, ◌<◌, ◌≤◌, Bool, ◌&&◌, nat_eq, nat_le, List, length, take, slice_index}
use Rattle.std.specs.List.{list_all}
use Rattle.executive_program.specs.declared.program.Instr.{Instr}
use Rattle.executive_program.specs.declared.program.Program.{Program}
use Rattle.executive_program.specs.Blocks.{blocks}
use Rattle.executive_program.specs.Instructions.{prologue}
use Rattle.executive_program.specs.Places.{reader, signals_empty, signals_of}
use Rattle.program_tables.specs.declared.readings.Reading.{Reading}
use Rattle.program_tables.specs.Readings.{reading_of}

-- the list begins with this many signals of the empty semaphore of pair q
abbrev pub opens_next : ℕ → ℕ → List Instr → Bool
opens_next q n xs = nat_le n (length xs) && list_all (signals_empty q) (take n xs)

-- Of each prologue this many instructions were passed: the signals for the pairs before q.
pub record IsPassed (p : Program) (q : ℕ) (passed : List ℕ) : Type 0 where
  pub many : length passed ≡ length p.seqs
  pub within : (s : ℕ) → s < length p.seqs → slice_index passed s ≤ length (prologue p s)
  pub signals : (s : ℕ) → s < length p.seqs → take (slice_index passed s) (prologue p s) ≡ blocks (signals_of p s) q

-- the reading of pair q
abbrev pub reading_at : Program → ℕ → Reading
reading_at p q = reading_of (reader p q)

-- all of the prologue of sequence s was passed
abbrev pub is_at_end : Program → List ℕ → ℕ → Bool
is_at_end p passed s = nat_eq (slice_index passed s) (length (prologue p s))
