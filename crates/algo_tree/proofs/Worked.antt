-- The number of vertices that trees worked by hand become; what explodes and implodes ask of lengths.
use Rattle.std.proofs.Common.{◌≡◌, ℕ, List, [], ◌∷◌, codes, replicate, slice_index_or, refl, ap, arith}
use Rattle.level_meaning.specs.declared.frontier.Feed.TheVariants.{Fork, Diffuse}
use Rattle.level_meaning.specs.declared.frontier.Give.TheVariants.{Last, Join}
use Rattle.level_meaning.specs.declared.part.Part.TheVariants.{Named}
use Rattle.algo_tree.specs.Tree.{Kind, sensor, function, explode, implode, graph, repeat, Vertex, vertex, Vertices, no_vertices, and_vertex}
use Rattle.algo_tree.specs.Size.{vertices_made}
use Rattle.algo_tree.specs.Typed.{IsKindTyped}

abbrev of_kind : Kind → Vertices → Vertex
of_kind k us = vertex (record { part = Named (codes "v"); definition = codes "v"; ins = []; guards = []; outs = []; names = []; kind = k }) us

abbrev one : Vertex
one = of_kind (function []) no_vertices

abbrev only : Vertex → Vertices
only u = and_vertex u no_vertices

-- A repetition of four copies with a fork line: an explode, the copies, and the graph itself.
abbrev four : Vertex
four = of_kind (repeat 4 (Fork (codes "x") 0 1 ∷ []) (Last 0 ∷ [])) (only one)

four_made : vertices_made four ≡ 6
four_made = refl

-- Three copies of a graph of a function and these four, with two fork lines, a diffuse line and a join line: 8 vertices
-- a copy, two explodes, an implode, and the graph itself.
abbrev three : Vertex
three = of_kind (repeat 3 (Fork (codes "x") 0 1 ∷ Diffuse 1 ∷ Fork (codes "y") 2 1 ∷ []) (Join (codes "o") 0 ∷ [])) (only (of_kind (graph []) (and_vertex one (only four))))

three_made : vertices_made three ≡ 28
three_made = refl

main_made : vertices_made (of_kind (graph []) (and_vertex (of_kind (sensor 0) no_vertices) (only three))) ≡ 30
main_made = refl

-- This many copies of a function, with a fork and a join line, inside a graph: four vertices more than copies.
abbrev copies : ℕ → Vertex
copies n = of_kind (graph []) (only (of_kind (repeat n (Fork (codes "x") 0 1 ∷ []) (Join (codes "o") 0 ∷ [])) (only one)))

copies_made : vertices_made (copies 7) ≡ 11
copies_made = refl

-- An explode of an input of this length into parts of these, and an implode of such parts to an output of this length.
abbrev Explodes : ℕ → List ℕ → Type 0
Explodes len parts = IsKindTyped explode (len ∷ []) parts [] (λ own inner. ⊥) (λ fed. ⊥)

abbrev Implodes : List ℕ → ℕ → Type 0
Implodes parts len = IsKindTyped implode parts (len ∷ []) [] (λ own inner. ⊥) (λ fed. ⊥)

-- Six elements in three parts of 2, in one part, and not in parts of 1, 2 and 3, which add up to as much, nor in two
-- parts of 2.
three_parts : Explodes 6 (2 ∷ 2 ∷ 2 ∷ [])
three_parts = (refl, refl)

one_part : Explodes 6 (6 ∷ [])
one_part = (refl, refl)

unequal_parts : Explodes 6 (1 ∷ 2 ∷ 3 ∷ []) → ⊥
unequal_parts h = let second = ap (λ (ns : List ℕ). slice_index_or ns 1 0) h.1 in omega (arith, second)

parts_too_short : Explodes 6 (2 ∷ 2 ∷ []) → ⊥
parts_too_short h = let whole = ap (λ (ns : List ℕ). slice_index_or ns 0 0) h.0 in omega (arith, whole)

-- No part at all would be of an input without elements, which no vertex has.
no_part : Explodes 6 [] → ⊥
no_part h = let whole = ap (λ (ns : List ℕ). slice_index_or ns 0 0) h.0 in omega (arith, whole)

-- Sixty-four parts of one element.
all_apart : Explodes 64 (replicate 64 1)
all_apart = (refl, refl)

-- The parts of an implode are its inputs.
joins_three : Implodes (2 ∷ 2 ∷ 2 ∷ []) 6
joins_three = (refl, refl)

joins_one : Implodes (6 ∷ []) 6
joins_one = (refl, refl)

joins_unequal : Implodes (1 ∷ 2 ∷ 3 ∷ []) 6 → ⊥
joins_unequal h = let last = ap (λ (ns : List ℕ). slice_index_or ns 2 0) h.1 in omega (arith, last)

joins_all : Implodes (replicate 64 1) 64
joins_all = (refl, refl)
