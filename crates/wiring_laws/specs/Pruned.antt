-- The tree without what is inside units that stand for no operation: in the place of each stands a graph that passes on
-- the same inputs, with nothing inside it.
use Rattle.std.specs.Prelude.{ℕ, ◌==◌, List, map, if◌then◌else◌, Option, Some, None}
use Rattle.algo_tree.specs.declared.Source.{Source}
use Rattle.algo_tree.specs.declared.Source.TheVariants.{Own}
use Rattle.algo_tree.specs.Tree.{Label, graph, Vertex, vertex, Vertices, no_vertices, and_vertex}
use Rattle.algo_tree.specs.Counted.{operations}
use Rattle.algo_tree.specs.Relabelled.{with_kind}
use Rattle.wiring_laws.specs.Wiring.{wiring}

-- An input as a source inside a graph. In a valid tree none is missing.
abbrev pub own_of : Option ℕ → Source
own_of None = Own 0
own_of (Some k) = Own k

-- A graph with nothing inside, whose outputs give these inputs.
abbrev pub passing : Label → List (Option ℕ) → Vertex
passing l leads = vertex (with_kind l (graph (map own_of leads))) no_vertices

abbrev mutual
  -- A vertex in which each unit that stands for no operation is replaced by what it passes on, itself among them.
  pub prune : Vertex → Vertex
  prune (vertex l us) =
      if operations (vertex l us) == 0
      then passing l (wiring (vertex l us))
      else vertex l (prune_all us)

  -- The same for each vertex of a level.
  pub prune_all : Vertices → Vertices
  prune_all no_vertices = no_vertices
  prune_all (and_vertex u us) = and_vertex (prune u) (prune_all us)

-- A main graph of which the units inside are pruned: its own references stay, so that they keep their numbers.
abbrev pub pruned : Vertex → Vertex
pruned (vertex l us) = vertex l (prune_all us)
