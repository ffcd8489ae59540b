-- Rows of places, by number.
use Rattle.std.specs.Prelude.{ℕ, List, [], ◌∷◌, ◌++◌, Option, Some, None, slice_get, slice_set}
use Rattle.program_tables.specs.declared.mark_table.Mark.{Mark}

-- This is the given row, and an empty one if none is given.
abbrev pub row_or : Option (List Mark) → List Mark
row_or None = []
row_or (Some ms) = ms

-- the row of a number, empty where there is none
abbrev pub row : List (List Mark) → ℕ → List Mark
row rows n = row_or (slice_get rows n)

-- with one place more in the row of its number
abbrev pub added : List (List Mark) → Mark → List (List Mark)
added rows m = slice_set rows m.number (row rows m.number ++ m ∷ [])
