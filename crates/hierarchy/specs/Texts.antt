-- Paths as texts that grow part by part.
use Rattle.std.specs.Prelude.{◌≡◌, ℕ, List, [], ◌∷◌, ◌++◌}
use Rattle.algo_tree.specs.declared.Part.{Part}
use Rattle.algo_tree.specs.declared.Part.TheVariants.{Named, Numbered, Port}
use Rattle.algo_tree.specs.Level.{Path}
use Rattle.algo_tree.specs.Texts.{part_text, parts_text, path_text}

-- The text of a path with one more part: nothing stands before a reference of the main graph.
abbrev pub joined : List ℕ → Part → List ℕ
joined [] (Named x) = x
joined [] (Numbered n) = part_text (Numbered n)
joined [] (Port x) = part_text (Port x)
joined (b ∷ bs) p = (b ∷ bs) ++ part_text p

-- Below a path with this text, `at` makes the paths of the whole.
abbrev pub Prefixes : List ℕ → (Path → Path) → Type 0
Prefixes text at = (p : Part) (q : Path) → path_text (at (p ∷ q)) ≡ joined text p ++ parts_text q
