-- What a tree is to keep, beside its names and lengths, so that it has a valid flat graph.
use Rattle.std.specs.Prelude.{ℕ, ◌<◌, ◌≤◌, ◌^◌, List, [], ◌∷◌, length}
use Rattle.level_meaning.specs.declared.part.Part.{Part}
use Rattle.level_meaning.specs.declared.part.Part.TheVariants.{Named, Numbered, Port}
use Rattle.level_meaning.specs.Level.{Path}
use Rattle.algo_tree.specs.Tree.{Kind, function, repeat, Label, Vertex, vertex, Vertices, no_vertices, and_vertex}

-- The number of a case or of a copy has 32 bits.
abbrev pub IsPartBounded : Part → Type 0
IsPartBounded (Named x) = Unit {0}
IsPartBounded (Numbered n) = n < 2 ^ 32
IsPartBounded (Port x) = Unit {0}

-- The number of every case and of every copy on the path has 32 bits.
abbrev pub IsPathBounded : Path → Type 0
IsPathBounded [] = Unit {0}
IsPathBounded (p ∷ q) = IsPartBounded p × IsPathBounded q

-- A function has 1 to 64 outputs; each copy of a repetition has a number of 32 bits.
abbrev pub IsKindBounded : Kind → List ℕ → Type 0
IsKindBounded (function es) outs = (1 ≤ length outs) × (length outs ≤ 64)
IsKindBounded (repeat n feeds gives) outs = n ≤ 2 ^ 32
IsKindBounded _ outs = Unit {0}

-- What is said of a vertex keeps these bounds.
pub record IsLabelBounded (label : Label) : Type 0 where
  pub part : IsPartBounded label.part
  pub kind : IsKindBounded label.kind label.outs

abbrev mutual
  -- The vertex and every vertex inside it keep these bounds: on the numbers of cases and copies, on
  -- the outputs of functions, and on how many copies a repetition has.
  pub IsBounded : Vertex → Type 0
  IsBounded (vertex l us) = IsLabelBounded l × AllBounded us

  -- The same holds for each of these vertices.
  pub AllBounded : Vertices → Type 0
  AllBounded no_vertices = Unit {0}
  AllBounded (and_vertex u us) = IsBounded u × AllBounded us

-- All that is inside the main graph keeps these bounds.
abbrev pub HasBounds : Vertex → Type 0
HasBounds (vertex l us) = AllBounded us
