-- The schedule of an algorithm on an architecture, and its program.
use Rattle.pressure_heuristic.specs.Computed.{table_of}
use Rattle.pressure_heuristic.specs.Pressure.{pressure_run}
use Rattle.pressure_heuristic.specs.Tasks.{task}
use Rattle.sequence_build_laws.specs.Archi.{Architecture as Archi}
use Rattle.sequence_build_laws.specs.Built.{program_of}
use Rattle.sequence_build_laws.specs.Graph.{Graph}
use Rattle.sequence_build_laws.specs.Table.{Table}
use Rattle.sequence_build_laws.specs.declared.Program.{Program}
use Rattle.sequence_build_laws.specs.declared.Schedule.{Schedule}

-- the schedule of the pressure run over the least routes
abbrev pub schedule_of : Graph → Archi → Table → Schedule
schedule_of g a t = pressure_run (task g a (table_of a) t)

-- the program of that schedule
abbrev pub program_by : Graph → Archi → Table → Program
program_by g a t = program_of g a (schedule_of g a t)
