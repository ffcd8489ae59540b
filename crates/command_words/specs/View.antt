-- A command of the program as a command of the table.
use Rattle.std.specs.Prelude.{option_map}
use Rattle.command_words.specs.Command as table
use Rattle.command_words.specs.declared.commands.Command.{Command}
use Rattle.command_words.specs.declared.commands.Command.TheVariants.{Plain, Job}
use Rattle.command_words.specs.declared.commands.PlainCommand.{PlainCommand}
use Rattle.command_words.specs.declared.commands.PlainCommand.TheVariants.{Check, Sim, Algorithm, Schedule, Dates}
use Rattle.command_words.specs.declared.commands.JobCommand.{JobCommand}
use Rattle.command_words.specs.declared.commands.JobCommand.TheVariants.{Run, Load, Exec}

-- A command that runs no job as a command of the table.
abbrev pub plain_view : PlainCommand → table.PlainCommand
plain_view (Check a h) = table.check a.now (option_map (λ name. name.now) h)
plain_view (Algorithm text a) = table.algorithm_text text a.now
plain_view (Schedule text a h) = table.schedule_text text a.now h.now
plain_view (Dates a h g n) = table.dates a.now h.now g.now n
plain_view (Sim a s) = table.sim a.now s.now

-- A command that runs jobs as a command of the table.
abbrev pub job_view : JobCommand → table.JobCommand
job_view (Run a h s workers) = table.run a.now h.now s.now workers
job_view (Exec a h c s workers) = table.exec a.now h.now c.now s.now workers
job_view (Load n) = table.load n

-- A command of the program as a command of the table, whether or not it runs jobs.
abbrev pub view_of : Command → table.Command
view_of (Plain command) = table.plain (plain_view command)
view_of (Job command) = table.job (job_view command)
