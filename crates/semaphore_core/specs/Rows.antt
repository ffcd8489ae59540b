-- Vectors in rows of reactions.
use Rattle.std.specs.Prelude.{◌≡◌, ℕ, ◌<◌, List, [], length, slice_index_or, slice_set}
use Rattle.syn_base.specs.Vectors.{Vector, Values, vector_at}
use Rattle.executive_program.specs.declared.Vertex.{Vertex}
use Rattle.executive_program.specs.declared.Kind.{Kind}
use Rattle.executive_program.specs.declared.Kind.TheVariants.{Actuator}

-- the rows with vector a of reaction k changed
abbrev pub with_vector : List Values → ℕ → ℕ → Vector → List Values
with_vector rows k a z = slice_set rows k (slice_set (slice_index_or rows k []) a z)

-- if it is an actuator, its first input has the length of its row
abbrev pub TakesRow : Vertex → List ℕ → Values → Type 0
TakesRow x lens read = by x.kind
  where
    by : Kind → Type 0
    by (Actuator a) = (a < length lens) × (0 < length read) × (length (vector_at read 0) ≡ slice_index_or lens a 0)
    by _ = Unit {0}
