-- A vector written over another.
use Rattle.std.specs.Prelude.{ℕ, ◌+◌, ◌++◌, length, take, drop}
use Rattle.syn_base.specs.Vectors.{Vector}

-- The values v stand in w from this place on.
abbrev pub over : ℕ → Vector → Vector → Vector
over from v w = take from w ++ (v ++ drop (from + length v) w)
