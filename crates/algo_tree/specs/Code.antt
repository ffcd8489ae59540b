-- A code of a vertex: its labels in order, each with the number of vertices inside.
use Rattle.std.specs.Prelude.{◌≡◌, ℕ, zero, suc, List, [], ◌∷◌, ◌++◌}
use Rattle.std.proofs.Common.{refl, ap, ◌∙◌, sym, append_assoc, append-nil}
use Rattle.std.specs.Coded.{Coded, code_by, coded×, coded_list, coded_ℕ}
use Rattle.level_meaning.specs.declared.part.Part.TheVariants.{Numbered}
use Rattle.algo_tree.specs.Tree.{Label, explode, Vertex, vertex, Vertices, no_vertices, and_vertex}

-- The number of these vertices.
abbrev pub count_of : Vertices → ℕ
count_of no_vertices = 0
count_of (and_vertex u us) = suc (count_of us)

abbrev mutual
  pub labels : Vertex → List (Label × ℕ)
  labels (vertex l us) = (l, count_of us) ∷ all_labels us

  pub all_labels : Vertices → List (Label × ℕ)
  all_labels no_vertices = []
  all_labels (and_vertex u us) = labels u ++ all_labels us

-- These vertices, and then those.
abbrev pub join : Vertices → Vertices → Vertices
join no_vertices vs = vs
join (and_vertex u us) vs = and_vertex u (join us vs)

-- The first n of these vertices.
abbrev pub first : ℕ → Vertices → Vertices
first zero us = no_vertices
first (suc n) no_vertices = no_vertices
first (suc n) (and_vertex u us) = and_vertex u (first n us)

-- These vertices without the first n.
abbrev pub rest : ℕ → Vertices → Vertices
rest zero us = us
rest (suc n) no_vertices = no_vertices
rest (suc n) (and_vertex u us) = rest n us

-- Each label takes as many of the vertices after it as it has inside.
abbrev pub built : List (Label × ℕ) → Vertices
built [] = no_vertices
built (x ∷ xs) = and_vertex (vertex x.0 (first x.1 (built xs))) (rest x.1 (built xs))

-- Some vertex, which stands for one that is not there.
abbrev pub nothing : Vertex
nothing = vertex
    (record { part = Numbered 0; definition = []; ins = []; guards = []; outs = []; names = []; kind = explode })
    no_vertices

-- The first of these vertices.
abbrev pub head_of : Vertices → Vertex
head_of no_vertices = nothing
head_of (and_vertex u us) = u

first-join : (us vs : Vertices) → first (count_of us) (join us vs) ≡ us
first-join no_vertices vs = refl
first-join (and_vertex u us) vs = ap (and_vertex u) (first-join us vs)

rest-join : (us vs : Vertices) → rest (count_of us) (join us vs) ≡ vs
rest-join no_vertices vs = refl
rest-join (and_vertex u us) vs = rest-join us vs

mutual
  built-labels : (u : Vertex) (xs : List (Label × ℕ)) → built (labels u ++ xs) ≡ and_vertex u (built xs)
  built-labels (vertex l us) xs = rw (built-all_labels us xs, first-join us (built xs), rest-join us (built xs))

  built-all_labels : (us : Vertices) (xs : List (Label × ℕ)) → built (all_labels us ++ xs) ≡ join us (built xs)
  built-all_labels no_vertices xs = refl
  built-all_labels (and_vertex u us) xs =
      ap built (append_assoc (labels u) (all_labels us) xs) ∙
      built-labels u (all_labels us ++ xs) ∙
      ap (and_vertex u) (built-all_labels us xs)

pub back_to : (u : Vertex) → head_of (built (labels u)) ≡ u
back_to u = ap (λ xs. head_of (built xs)) (sym (append-nil (labels u))) ∙ ap head_of (built-labels u [])

-- Vertices have a code where labels have one, so that two of them are told apart by their codes.
abbrev pub vertex_code : Coded Label → Coded Vertex
vertex_code label =
    code_by (List (Label × ℕ)) (coded_list (coded× label coded_ℕ)) labels (λ xs. head_of (built xs)) back_to
