-- The flat graph of a tree by itself: it stands for the flat list, is valid, and keeps the meaning.
use Rattle.std.specs.Prelude.{◌≡◌, ℕ, true, List}
use Rattle.algo_laws.specs.Tree.{Vertex}
use Rattle.algo_laws.specs.Valid.{IsTree}
use Rattle.algo_laws.specs.Meaning.{act_row}
use Rattle.flat_graph.specs.Graph.{Graph}
use Rattle.flat_graph.specs.Valid.{is_flat}
use Rattle.flat_graph.specs.Meaning.{initial_cells, flat_act_row}
use Rattle.flat_laws.specs.Unrolled.{unroll}
use Rattle.flat_laws.specs.Guarded.{guard}
use Rattle.flat_laws.specs.Inlined.{operations}
use Rattle.flat_laws.specs.EndLengths.{HasEndLengths}
use Rattle.flat_laws.specs.Stands.{Stands}
use Rattle.flat_laws.specs.FlatOf.{flat_of}
use Rattle.syn_base.specs.Vectors.{Values}

-- the flat graph that is defined stands for the flat list
abbrev pub FlatOfStands : Type 0
FlatOfStands = (main : Vertex) → IsTree main → Stands (flat_of main) (operations (guard (unroll main)))

-- it is valid, its sensors and actuators have the tree's lengths, and its actuators take what the tree's take
pub record HasFlat (main : Vertex) : Type 0 where
  pub tree : IsTree main
  pub valid : is_flat (flat_of main) ≡ true
  pub lengths : HasEndLengths main (flat_of main)
  pub taken : (rows : List Values) (k : ℕ) →
      flat_act_row (flat_of main) rows (initial_cells (flat_of main).vertices) k ≡ act_row main rows k

-- The flat graph of every tree is valid, and its actuators take in each reaction what those of the tree take.
abbrev pub TreesHaveFlat : Type 0
TreesHaveFlat = (main : Vertex) → IsTree main → HasFlat main

-- Any flat graph that stands for the tree, in each reaction over all rows, from the initial values of its delays.
abbrev pub FlatTakesTheSame : Type 0
FlatTakesTheSame = (main : Vertex) (g : Graph) → IsTree main → Stands g (operations (guard (unroll main)))
    → (rows : List Values) (k : ℕ) → flat_act_row g rows (initial_cells g.vertices) k ≡ act_row main rows k
