-- The numbers of operations.
use Rattle.std.specs.Prelude.{ℕ, ◌+◌, List, [], ◌∷◌}
use Rattle.algo_tree.specs.Tree.{Vertices, no_vertices, and_vertex}
use Rattle.algo_tree.specs.Counted.{operations}

-- The number of the first operation of each vertex of a level, whose own first operation has number b.
abbrev pub first_numbers : ℕ → Vertices → List ℕ
first_numbers b no_vertices = []
first_numbers b (and_vertex u us) = b ∷ first_numbers (b + operations u) us
