-- The names of parts, and levels whose nodes are told apart by their parts.
use Rattle.std.specs.Prelude.{◌≡◌, ℕ, List, [], ◌∷◌, false}
use Rattle.level_meaning.specs.declared.part.Part.{Part}
use Rattle.level_meaning.specs.declared.part.Part.TheVariants.{Named, Numbered, Port}
use Rattle.level_meaning.specs.Level.{Node, same_part}

-- The name of a reference or port; a case or copy has none.
abbrev pub name_of : Part → List ℕ
name_of (Named name) = name
name_of (Numbered n) = []
name_of (Port name) = name

-- No later node has this part.
abbrev pub IsApart : Part → List Node → Type 0
IsApart p [] = Unit {0}
IsApart p (c ∷ cs) = (same_part p c.part ≡ false) × IsApart p cs

-- No two nodes of the level have the same part.
abbrev pub HasDistinctParts : List Node → Type 0
HasDistinctParts [] = Unit {0}
HasDistinctParts (c ∷ cs) = IsApart c.part cs × HasDistinctParts cs
