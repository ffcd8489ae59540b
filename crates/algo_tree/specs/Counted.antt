-- How many flat operations a vertex stands for, without expanding it.
use Rattle.std.specs.Prelude.{ℕ, ◌+◌, ◌*◌, length}
use Rattle.algo_tree.specs.Tree.{Kind, delay, graph, switch, repeat, Vertex, vertex, Vertices, no_vertices, and_vertex}
use Rattle.algo_tree.specs.Well.{fork_names, join_names}

-- A delay stands for two operations for each reaction that it looks back, a switch for those of its cases and a merge
-- for each output, and a repetition for those of its copies, an explode for each fork line and an implode for each join
-- line. Any other vertex with nothing inside stands for one.
abbrev pub operations_by : Kind → ℕ → ℕ
operations_by (delay vs) inner = 2 * length vs
operations_by (graph outs) inner = inner
operations_by (switch values names) inner = inner + length names
operations_by (repeat n feeds gives) inner = length (fork_names feeds) + n * inner + length (join_names gives)
operations_by _ inner = 1

abbrev mutual
  -- The number of flat operations that flattening makes of a vertex with all that is inside it.
  pub operations : Vertex → ℕ
  operations (vertex l us) = operations_by l.kind (operations_in us)

  -- How many operations several vertices stand for, all together.
  pub operations_in : Vertices → ℕ
  operations_in no_vertices = 0
  operations_in (and_vertex u us) = operations u + operations_in us
