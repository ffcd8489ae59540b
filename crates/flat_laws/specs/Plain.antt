-- A tree of graphs and operations alone: no repetition and no case is left.
use Rattle.algo_tree.specs.Tree.{Kind, switch, repeat, Vertex, vertex, Vertices, no_vertices, and_vertex}

-- The kind is neither that of a switch nor that of a repetition.
abbrev pub IsKindPlain : Kind → Type 0
IsKindPlain (switch values names) = ⊥
IsKindPlain (repeat n feeds gives) = ⊥
IsKindPlain _ = Unit {0}

abbrev mutual
  -- Neither the vertex nor any vertex inside it, however deep, is a switch or a repetition.
  pub IsPlain : Vertex → Type 0
  IsPlain (vertex l us) = IsKindPlain l.kind × AllPlain us

  -- The same holds for each of these vertices.
  pub AllPlain : Vertices → Type 0
  AllPlain no_vertices = Unit {0}
  AllPlain (and_vertex u us) = IsPlain u × AllPlain us
