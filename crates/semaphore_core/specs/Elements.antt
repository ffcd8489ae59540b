-- Elements in lists of lists.
use Rattle.std.specs.Prelude.{ℕ, List, [], slice_index_or, ℤ, pos}

-- This is the element at this place of the list of this number; it is 0 if there is no such place.
abbrev pub element_in : List (List ℤ) → ℕ → ℕ → ℤ
element_in lists list at = slice_index_or (slice_index_or lists list []) at (pos 0)
