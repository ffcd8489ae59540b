-- The nodes of a level, by their number.
use Rattle.std.proofs.Common.{◌≡◌, ℕ, zero, suc, ◌<◌, List, [], ◌∷◌, length, map, get_or, Some, slice_get, refl, ap, ◌∙◌, arith}
use Rattle.algo_tree.specs.Tree.{Vertex}
use Rattle.algo_tree.specs.Meaning.{node, nodes}
use Rattle.algo_tree.specs.View.{view, vertices_of, vertices_view}
use Rattle.algo_tree.specs.declared.vertex.Vertex.{Vertex as Declared}
use Rattle.hierarchy.specs.Order.{nodes_of}

length-map : {A B : Type 0} (f : A → B) (xs : List A) → length (map f xs) ≡ length xs
length-map f [] = refl
length-map f (x ∷ xs) = ap suc (length-map f xs)

pub nodes-vertices_of : (us : List Vertex) → nodes (vertices_of us) ≡ map node us
nodes-vertices_of [] = refl
nodes-vertices_of (u ∷ us) = ap (λ cs. node u ∷ cs) (nodes-vertices_of us)

pub nodes_view : (us : List Declared) → nodes (vertices_view us) ≡ nodes_of us
nodes_view us = nodes-vertices_of (map view us)

pub length-nodes_of : (us : List Declared) → length (nodes_of us) ≡ length us
length-nodes_of us = length-map node (map view us) ∙ length-map view us

pub slice_get-at : {A B : Type 0} (f : A → B) (xs : List A) (r : ℕ) (d : A) → r < length xs → slice_get (map f xs) r ≡ Some (f (get_or xs r d))
slice_get-at f [] r d h = absurd (omega arith)
slice_get-at f (x ∷ xs) zero d h = refl
slice_get-at f (x ∷ xs) (suc r) d h = slice_get-at f xs r d (omega arith)

get_mapped : {A B : Type 0} (f : A → B) (xs : List A) (r : ℕ) (d : A) → get_or (map f xs) r (f d) ≡ f (get_or xs r d)
get_mapped f [] r d = refl
get_mapped f (x ∷ xs) zero d = refl
get_mapped f (x ∷ xs) (suc r) d = get_mapped f xs r d

pub node_at : (us : List Declared) (r : ℕ) (d : Declared) → r < length us → slice_get (nodes_of us) r ≡ Some (node (view (get_or us r d)))
node_at us r d lt = slice_get-at node (map view us) r (view d) (rw length-map lt) ∙ ap (λ v. Some (node v)) (get_mapped view us r d)
