-- Names where names stand: what the texts of paths, and the definitions of operations, are made of.
use Rattle.std.specs.Prelude.{◌≡◌, ℕ, Bool, ◌&&◌, IsTrue, List, [], ◌∷◌}
use Rattle.std.specs.List.{list_all}
use Rattle.syn_base.specs.Name.{is_name_byte, begins_name, is_name}
use Rattle.level_meaning.specs.declared.part.Part.{Part}
use Rattle.level_meaning.specs.declared.part.Part.TheVariants.{Named, Numbered, Port}
use Rattle.level_meaning.specs.Level.{Path}
use Rattle.algo_tree.specs.Tree.{Kind, switch, repeat, Label, Vertex, vertex, Vertices, no_vertices, and_vertex}
use Rattle.algo_tree.specs.Well.{fork_names, join_names}
use Rattle.algo_tree.specs.Texts.{path_text}
use Rattle.algo_tree.specs.Bounded.{IsPathBounded}

-- One or more letters, digits and `_`, of which the first is no digit: a name of a text, or a longer one, as passes
-- make them.
abbrev pub is_word : List ℕ → Bool
is_word x = begins_name x && list_all is_name_byte x

-- If the part is a reference or a port, its name is a word; a number needs no name.
abbrev pub IsPartNamed : Part → Type 0
IsPartNamed (Named x) = IsTrue (is_word x)
IsPartNamed (Numbered n) = Unit {0}
IsPartNamed (Port x) = IsTrue (is_word x)

-- The name of every reference and of every port on the path is a word.
abbrev pub IsPathNamed : Path → Type 0
IsPathNamed [] = Unit {0}
IsPathNamed (p ∷ q) = IsPartNamed p × IsPathNamed q

-- Each of these names is a word.
abbrev pub AreNames : List (List ℕ) → Type 0
AreNames [] = Unit {0}
AreNames (x ∷ xs) = IsTrue (is_word x) × AreNames xs

-- The outputs of a switch and the outer ports of fork and join lines, of which flattening makes vertices.
abbrev pub IsKindNamed : Kind → Type 0
IsKindNamed (switch values names) = AreNames names
IsKindNamed (repeat n feeds gives) = AreNames (fork_names feeds) × AreNames (join_names gives)
IsKindNamed _ = Unit {0}

-- A definition has a name of a text, since it is one of a text.
pub record IsLabelNamed (label : Label) : Type 0 where
  pub part : IsPartNamed label.part
  pub definition : IsTrue (is_name label.definition)
  pub kind : IsKindNamed label.kind

abbrev mutual
  -- The vertex and every vertex inside it have names wherever names are required: the
  -- definition has a name of a text; references, outputs of switches and the ports of fork and
  -- join lines have words.
  pub IsNamed : Vertex → Type 0
  IsNamed (vertex l us) = IsLabelNamed l × AllNamed us

  -- The same holds for each of these vertices.
  pub AllNamed : Vertices → Type 0
  AllNamed no_vertices = Unit {0}
  AllNamed (and_vertex u us) = IsNamed u × AllNamed us

-- All that is inside the main graph has such names.
abbrev pub HasNames : Vertex → Type 0
HasNames (vertex l us) = AllNamed us

-- A path is told by its text. Numbers are bounded, since `decimal` writes 64 digits at most.
abbrev pub TextsTellPaths : Type 0
TextsTellPaths = (p q : Path) → IsPathNamed p → IsPathNamed q → IsPathBounded p → IsPathBounded q →
    path_text p ≡ path_text q → p ≡ q
