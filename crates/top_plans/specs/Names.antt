-- The names that each command gives its files, and which commands run jobs.
use Rattle.std.specs.Prelude.{Option, Some, None}
use Rattle.syn_base.specs.Bytes.{Bytes}
use Rattle.command_words.specs.Command.{
  Command,
  plain,
  job,
  check,
  algorithm_text,
  schedule_text,
  dates,
  sim,
  run,
  exec,
  load,
}
use Rattle.command_status.specs.declared.File.{File}
use Rattle.command_status.specs.declared.File.TheVariants.{Algorithm, Architecture, Sensors, Code, Durations}

-- the names that the words give an algorithm, an architecture, a sensor table, a code and durations that really occur
abbrev pub named : Option Bytes → Option Bytes → Option Bytes → Option Bytes → Option Bytes → File → Option Bytes
named a h s c g Algorithm = a
named a h s c g Architecture = h
named a h s c g Sensors = s
named a h s c g Code = c
named a h s c g Durations = g

-- The name that a command gives a file, and None if the command has no such file.
abbrev pub names_for : Command → File → Option Bytes
names_for (plain (check a h)) = named (Some a) h None None None
names_for (plain (algorithm_text text a)) = named (Some a) None None None None
names_for (plain (schedule_text text a h)) = named (Some a) (Some h) None None None
names_for (plain (dates a h g n)) = named (Some a) (Some h) None None (Some g)
names_for (plain (sim a s)) = named (Some a) None (Some s) None None
names_for (job (run a h s workers)) = named (Some a) (Some h) (Some s) None None
names_for (job (exec a h c s workers)) = named (Some a) (Some h) (Some s) (Some c) None
names_for (job (load n)) = named None None None None None

-- the name that the words give a file
abbrev pub names_of : Option Command → File → Option Bytes
names_of None = named None None None None None
names_of (Some command) = names_for command

-- commands that run jobs: they are left to the call that has threads
abbrev pub RunsJobs : Command → Type 0
RunsJobs (plain command) = ⊥
RunsJobs (job command) = Unit {0}

-- no command, or one that runs no job
abbrev pub IsPlain : Option Command → Type 0
IsPlain None = Unit {0}
IsPlain (Some command) = ¬ RunsJobs command
