-- The depth of a program's buffers.
use Rattle.std.specs.Prelude.{ℕ, List, [], ◌∷◌, max}
use Rattle.sequence_build_laws.specs.declared.Buffer.{Buffer}

-- the greatest depth, at least 1
abbrev pub deepest : List Buffer → ℕ
deepest [] = 1
deepest (b ∷ bs) = max b.depth (deepest bs)
