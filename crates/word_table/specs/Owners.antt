-- The sequences that call the delays.
use Rattle.std.specs.Prelude.{ℕ, cond, List, [], ◌∷◌}
use Rattle.executive_program.specs.declared.Vertex.{Vertex}
use Rattle.executive_program.specs.Meaning.{is_get}

-- the callers of the get halves, in order
abbrev pub owners : List ℕ → List Vertex → List ℕ
owners [] xs = []
owners (c ∷ cs) [] = []
owners (c ∷ cs) (x ∷ xs) = cond (is_get x.kind) (c ∷ owners cs xs) (owners cs xs)
