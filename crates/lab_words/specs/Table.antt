-- The table of the commands, as the code has it.
use Rattle.std.specs.Prelude.{List, map}
use Rattle.syn_base.specs.Bytes.{Bytes}
use Rattle.lab_words.specs.declared.table.CommandKind.{CommandKind}
use Rattle.lab_words.specs.declared.table.TheConstants.{COMMANDS}

-- A row of the table: what a command is called, and which one it is.
abbrev pub Row : Type 0
Row = Bytes × CommandKind

-- The commands of the program.
abbrev pub table : List Row
table = map (λ r. (r.0.now, r.1)) COMMANDS

-- What a reader is told of a command: its name, the words after it, and what it writes.
abbrev pub Told : Type 0
Told = Bytes × Bytes × Bytes

-- What a reader is told of the commands.
abbrev pub told : List Told
told = map (λ r. (r.0.now, r.2.now, r.3.now)) COMMANDS
