-- Texts as lists of lines.
use Rattle.std.specs.Prelude.{ℕ, List, [], ◌∷◌, ◌++◌, codes}
use Rattle.syn_base.specs.Bytes.{Bytes}

-- a line feed after each line
abbrev pub lines_text : List Bytes → Bytes
lines_text [] = []
lines_text (l ∷ ls) = (l ++ codes "\n") ++ lines_text ls
