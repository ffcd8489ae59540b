-- Vectors of whole numbers, and lists of vectors.
use Rattle.std.specs.Prelude.{ℕ, ℤ, pos, List, [], replicate, slice_index_or}

-- A vector: whole numbers in order.
abbrev pub Vector : Type 0
Vector = List ℤ

-- Vectors in order, as those of the inputs or of the outputs of an operation.
abbrev pub Values : Type 0
Values = List (List ℤ)

-- The vector of number k, and the empty vector if there is none.
abbrev pub vector_at : Values → ℕ → Vector
vector_at vs k = slice_index_or vs k []

-- A vector of this length, all zeros.
abbrev pub zeros : ℕ → Vector
zeros n = replicate n (pos 0)
