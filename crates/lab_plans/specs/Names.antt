-- The names that each command gives its files.
use Rattle.std.specs.Prelude.{Option, Some, None}
use Rattle.syn_base.specs.Bytes.{Bytes}
use Rattle.lab_words.specs.Command.{Command, help, schedule, graph, table, lint, why, plot, dates}
use Rattle.top_plans.specs.declared.File.{File}
use Rattle.top_plans.specs.Names.{named}

-- The name that a command gives a file, and None if the command has no such file.
abbrev pub names_for : Command → File → Option Bytes
names_for help = named None None None None None
names_for (schedule subject a h effort) = named (Some a) (Some h) None None None
names_for (graph a) = named (Some a) None None None None
names_for (table a) = named (Some a) None None None None
names_for (lint a h) = named (Some a) h None None None
names_for (why a h c) = named (Some a) (Some h) None (Some c) None
names_for (plot a s) = named (Some a) None (Some s) None None
names_for (dates form a h g n effort) = named (Some a) (Some h) None None (Some g)

-- the name that the words give a file
abbrev pub names_of : Option Command → File → Option Bytes
names_of None = named None None None None None
names_of (Some command) = names_for command
