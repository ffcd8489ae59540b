-- What adequation returns.
use Rattle.std.specs.Prelude.{◌≡◌}
use Rattle.route_table.specs.Table.{RouteTable, IsTableOf}
use Rattle.schedule.specs.Graph.{Graph}
use Rattle.schedule.specs.Archi.{Architecture}
use Rattle.schedule.specs.Table.{Table}
use Rattle.schedule.specs.declared.decision.Schedule.{Schedule}
use Rattle.pressure_heuristic.specs.Pressure.{pressure_run}
use Rattle.pressure_heuristic.specs.Tasks.{task}

-- The schedule is the pressure run over the least routes of the architecture.
abbrev pub IsPressureRun : Graph → Architecture → Table → Schedule → Type 0
IsPressureRun g a d s = (r : RouteTable) × IsTableOf a r × (s ≡ pressure_run (task g a r d))

-- whichever table of least routes is taken
abbrev pub IsRunOfAny : Graph → Architecture → Table → Schedule → Type 0
IsRunOfAny g a d s = (r : RouteTable) → IsTableOf a r → s ≡ pressure_run (task g a r d)
