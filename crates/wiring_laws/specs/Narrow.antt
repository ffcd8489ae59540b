-- How wide and how deep a tree is, from which follows how large the pruned one is at most.
use Rattle.std.specs.Prelude.{◌≡◌, ℕ, suc, ◌≤◌, max}
use Rattle.algo_tree.specs.Tree.{Kind, graph, switch, repeat, Vertex, vertex, Vertices, no_vertices, and_vertex}
use Rattle.algo_tree.specs.Code.{count_of}
use Rattle.algo_tree.specs.Counted.{operations_in}
use Rattle.algo_tree.specs.Well.{IsEmpty}

-- A repetition of a body without operations has at most w copies: its lines part or join vectors. What is no unit has
-- nothing inside.
abbrev pub IsKindNarrow : ℕ → Kind → Vertices → Type 0
IsKindNarrow w (graph outs) us = Unit {0}
IsKindNarrow w (switch values names) us = Unit {0}
IsKindNarrow w (repeat n feeds gives) us = (count_of us ≡ 1) × (operations_in us ≡ 0 → n ≤ w)
IsKindNarrow w _ us = IsEmpty us

abbrev mutual
  -- Right inside each vertex stand at most w others.
  pub IsNarrow : ℕ → Vertex → Type 0
  IsNarrow w (vertex l us) = ((count_of us ≤ w) × IsKindNarrow w l.kind us) × AllNarrow w us

  -- The same for each of these vertices.
  pub AllNarrow : ℕ → Vertices → Type 0
  AllNarrow w no_vertices = Unit {0}
  AllNarrow w (and_vertex u us) = IsNarrow w u × AllNarrow w us

abbrev mutual
  -- How deep vertices stand inside one another, this one counted.
  pub depth : Vertex → ℕ
  depth (vertex l us) = suc (depth_in us)

  -- The same for the deepest of these vertices.
  pub depth_in : Vertices → ℕ
  depth_in no_vertices = 0
  depth_in (and_vertex u us) = max (depth u) (depth_in us)
