-- How many vertices a tree has where each repetition has its copies, without making them.
use Rattle.std.specs.Prelude.{ℕ, suc, ◌+◌, ◌*◌, length}
use Rattle.algo_tree.specs.Tree.{Kind, repeat, Vertex, vertex, Vertices, no_vertices, and_vertex}
use Rattle.algo_tree.specs.Well.{fork_names, join_names}

-- A vertex of this kind and all inside it, where those inside it become this many: in a repetition once for each copy,
-- beside an explode for each fork line and an implode for each join line.
abbrev pub made_by : Kind → ℕ → ℕ
made_by (repeat n feeds gives) inner = suc (length (fork_names feeds) + n * inner + length (join_names gives))
made_by _ inner = suc inner

abbrev mutual
  -- The number of vertices, itself included, that a vertex becomes once each repetition in it has
  -- its copies, and an explode or an implode for each of its fork and join lines.
  pub vertices_made : Vertex → ℕ
  vertices_made (vertex l us) = made_by l.kind (vertices_made_in us)

  -- The same for several vertices together.
  pub vertices_made_in : Vertices → ℕ
  vertices_made_in no_vertices = 0
  vertices_made_in (and_vertex u us) = vertices_made u + vertices_made_in us
