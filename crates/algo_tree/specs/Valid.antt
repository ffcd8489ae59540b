-- What holds of every tree.
use Rattle.std.specs.Prelude.{◌≡◌, ◌≤◌, []}
use Rattle.algo_tree.specs.Tree.{Label, graph, Vertex}
use Rattle.algo_tree.specs.Meaning.{vertices_in}
use Rattle.algo_tree.specs.Well.{IsWell}
use Rattle.algo_tree.specs.Typed.{IsTyped, label_of}
use Rattle.algo_tree.specs.Ends.{NoneInside, AreEndsNumbered}
use Rattle.algo_tree.specs.Counted.{operations}
use Rattle.algo_tree.specs.Named.{HasNames}
use Rattle.algo_tree.specs.Bounded.{HasBounds}

-- The main graph has no ports.
pub record HasNoPorts (l : Label) : Type 0 where
  pub kind : l.kind ≡ graph []
  pub ins : l.ins ≡ []

-- A vertex is the main graph of a tree.
pub record IsTree (main : Vertex) : Type 0 where
  pub portless : HasNoPorts (label_of main)
  pub well : IsWell main
  pub typed : IsTyped [] main
  pub inside : NoneInside (vertices_in main)
  pub numbered : AreEndsNumbered (vertices_in main)
  pub few : operations main ≤ 2048
  pub named : HasNames main
  pub bounded : HasBounds main
