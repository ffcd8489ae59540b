-- Paths as texts.
use Rattle.std.specs.Prelude.{ℕ, List, [], ◌∷◌, ◌++◌, codes}
use Rattle.std.specs.Fmt.{decimal}
use Rattle.level_meaning.specs.declared.part.Part.{Part}
use Rattle.level_meaning.specs.declared.part.Part.TheVariants.{Named, Numbered, Port}
use Rattle.level_meaning.specs.Level.{Path}

-- A reference stands after `/`, the number of a case or of a copy after `.`, and the port of a made vertex after `:`.
abbrev pub part_text : Part → List ℕ
part_text (Named x) = codes "/" ++ x
part_text (Numbered n) = codes "." ++ decimal n
part_text (Port x) = codes ":" ++ x

-- The texts of these parts one after another, each with the sign of its kind in front.
abbrev pub parts_text : Path → List ℕ
parts_text [] = []
parts_text (p ∷ q) = part_text p ++ parts_text q

-- A path begins with a reference of the main graph, before which nothing stands.
abbrev pub path_text : Path → List ℕ
path_text (Named x ∷ q) = x ++ parts_text q
path_text q = parts_text q
