-- The list of the commands, as `help` writes it.
use Rattle.std.specs.Prelude.{List, [], ◌∷◌, ◌++◌, codes}
use Rattle.syn_base.specs.Bytes.{Bytes}
use Rattle.lab_words.specs.Table.{Told, told}

-- lines, each with its end
abbrev pub lines_text : List Bytes → Bytes
lines_text [] = []
lines_text (l ∷ ls) = l ++ 10 ∷ lines_text ls

-- The first lines of the list of the commands.
abbrev pub heading : List Bytes
heading = codes "syndex_lab shows what syndex compiles, in forms that other tools show." ∷ [] ∷ []

-- A name with the words after it, if there are any.
abbrev pub with_words : (name words : Bytes) → Bytes
with_words name [] = name
with_words name (b ∷ bs) = name ++ 32 ∷ b ∷ bs

-- What a reader is told of a command: how it is called, and in a second line what it writes.
abbrev pub command_text : Told → Bytes
command_text (name, words, line) =
    lines_text ((codes "  " ++ with_words name words) ∷ (codes "      " ++ line) ∷ [])

-- What a reader is told of these commands, one after another.
abbrev pub commands_text : List Told → Bytes
commands_text [] = []
commands_text (t ∷ ts) = command_text t ++ commands_text ts

-- The last lines, on the options of a search.
abbrev pub option_lines : List Bytes
option_lines =
    [] ∷ codes "OPTIONS are --tries N, which searches a schedule by N tries, --seed S, which fixes its chances,"
    ∷ codes "and --for length or --for period, which says what the search makes small."
    ∷ codes "The manual is docs/MANUAL.md." ∷ []

-- The text that `help` writes: the heading, two lines for each command, and the options of a search.
abbrev pub help_text : Bytes
help_text = lines_text heading ++ (commands_text told ++ lines_text option_lines)
