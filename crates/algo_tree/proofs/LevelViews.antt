-- Several vertices as a level.
use Rattle.std.proofs.Common.{◌≡◌, List, [], ◌∷◌, map, refl, ap}
use Rattle.algo_tree.specs.Tree.{Vertex}
use Rattle.algo_tree.specs.Meaning.{node, nodes}
use Rattle.algo_tree.specs.View.{vertices_of}

pub nodes-vertices_of : (us : List Vertex) → nodes (vertices_of us) ≡ map node us
nodes-vertices_of [] = refl
nodes-vertices_of (u ∷ us) = ap (λ cs. node u ∷ cs) (nodes-vertices_of us)
