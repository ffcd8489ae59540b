-- Texts as lists of bytes.
use Rattle.std.specs.Prelude.{ℕ, List, [], ◌∷◌, ◌++◌, codes}

-- A text: its bytes in order, each as a number.
abbrev pub Bytes : Type 0
Bytes = List ℕ

-- These texts, each with a comma before it.
abbrev pub each_after_comma : List Bytes → Bytes
each_after_comma [] = []
each_after_comma (w ∷ ws) = (codes "," ++ w) ++ each_after_comma ws
