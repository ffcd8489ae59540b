-- A tree without cases.
use Rattle.algo_tree.specs.Tree.{Kind, switch, Vertex, vertex, Vertices, no_vertices, and_vertex}

-- The kind is not that of a switch.
abbrev pub IsNoCase : Kind → Type 0
IsNoCase (switch values names) = ⊥
IsNoCase _ = Unit {0}

abbrev mutual
  -- Neither the vertex nor any vertex inside it, however deep, is a switch.
  pub HasNoCase : Vertex → Type 0
  HasNoCase (vertex l us) = IsNoCase l.kind × AllNoCase us

  -- The same holds for each of these vertices.
  pub AllNoCase : Vertices → Type 0
  AllNoCase no_vertices = Unit {0}
  AllNoCase (and_vertex u us) = HasNoCase u × AllNoCase us
