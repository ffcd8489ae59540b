-- A tree without repetitions.
use Rattle.algo_tree.specs.Tree.{Kind, repeat, Vertex, vertex, Vertices, no_vertices, and_vertex}

-- The kind is not that of a repetition.
abbrev pub IsNoRepeat : Kind → Type 0
IsNoRepeat (repeat n feeds gives) = ⊥
IsNoRepeat _ = Unit {0}

abbrev mutual
  -- Neither the vertex nor any vertex inside it, however deep, is a repetition.
  pub HasNoRepeat : Vertex → Type 0
  HasNoRepeat (vertex l us) = IsNoRepeat l.kind × AllNoRepeat us

  -- The same holds for each of these vertices.
  pub AllNoRepeat : Vertices → Type 0
  AllNoRepeat no_vertices = Unit {0}
  AllNoRepeat (and_vertex u us) = HasNoRepeat u × AllNoRepeat us
