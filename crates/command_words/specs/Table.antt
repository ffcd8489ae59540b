-- The table of the commands, as the code has it.
use Rattle.std.specs.Prelude.{List, [], ◌∷◌, Option, Some, None, map, if◌then◌else◌}
use Rattle.std.specs.Str.{bytes_eq}
use Rattle.syn_base.specs.Bytes.{Bytes}
use Rattle.command_words.specs.declared.table.CommandKind.{CommandKind}
use Rattle.command_words.specs.declared.table.TheConstants.{COMMANDS}

-- A row of the table: what a command is called, and which one it is.
abbrev pub Row : Type 0
Row = Bytes × CommandKind

-- The commands of the program.
abbrev pub table : List Row
table = map (λ r. (r.0.now, r.1)) COMMANDS

-- Which command has this name, by the first row that has it, and None if no row has it.
abbrev pub kind_named : {K : Type 0} → List (Bytes × K) → Bytes → Option K
kind_named [] name = None
kind_named (r ∷ rs) name = if bytes_eq r.0 name then Some r.1 else kind_named rs name
