-- Worked commands, by what is found in the words.
use Rattle.std.proofs.Common.{◌≡◌, [], ◌∷◌, Some, None, refl}
use Rattle.std.specs.Prelude.{codes}
use Rattle.lab_words.specs.Table.{table as rows_of_code}
use Rattle.lab_words.specs.declared.table.AlgorithmText.TheVariants.{Graph, Table}
use Rattle.lab_words.specs.declared.table.ScheduleText.TheVariants.{Chart, Flat, Code}
use Rattle.lab_words.specs.declared.table.CommandKind.TheVariants.{Help, Algorithm, Lint, Plot, Why, Schedule, Report, Trace, Dates}
use Rattle.lab_words.specs.Command.{Effort, Values, for_length, for_period, chart, trace, report, drawn, traced, flat, code, help, schedule, graph, table, lint, why, plot, dates, command_by}

-- the table of the code has these commands
rows : rows_of_code ≡ (codes "chart", Schedule Chart) ∷ (codes "trace", Trace) ∷ (codes "flat", Schedule Flat) ∷ (codes "code", Schedule Code) ∷ (codes "report", Report)
    ∷ (codes "dates", Dates) ∷ (codes "graph", Algorithm Graph) ∷ (codes "table", Algorithm Table) ∷ (codes "lint", Lint) ∷ (codes "why", Why) ∷ (codes "plot", Plot)
    ∷ (codes "help", Help) ∷ (codes "--help", Help) ∷ []
rows = refl

abbrev nothing : Values
nothing = record {
  algorithm = None;
  architecture = None;
  macros = None;
  sensors = None;
  durations = None;
  reactions = None;
  tries = None;
  seed = None;
  goal = None;
}

abbrev untold : Effort
untold = record { tries = 0; seed = 1; goal = for_length }

-- `A H`
abbrev on_a_board : Values
on_a_board = record nothing { algorithm = Some (codes "A"); architecture = Some (codes "H") }

untried : command_by (codes "chart") on_a_board ≡ Some (schedule chart (codes "A") (codes "H") untold)
untried = refl

tried : command_by (codes "trace") (record on_a_board { tries = Some (codes "500"); seed = Some (codes "007") })
    ≡ Some (schedule trace (codes "A") (codes "H") (record { tries = 500; seed = 7; goal = for_length }))
tried = refl

-- the bounds of numbers
no_tries : command_by (codes "report") (record on_a_board { tries = Some (codes "0") }) ≡ None
no_tries = refl

most : command_by (codes "report") (record on_a_board { tries = Some (codes "1000000") })
    ≡ Some (schedule (report 50) (codes "A") (codes "H") (record { tries = 1000000; seed = 1; goal = for_length }))
most = refl

too_many : command_by (codes "report") (record on_a_board { tries = Some (codes "1000001") }) ≡ None
too_many = refl

no_number : command_by (codes "report") (record on_a_board { seed = Some (codes "x") }) ≡ None
no_number = refl

-- the goal
for_a_period : command_by (codes "flat") (record on_a_board { goal = Some (codes "period") })
    ≡ Some (schedule flat (codes "A") (codes "H") (record { tries = 0; seed = 1; goal = for_period }))
for_a_period = refl

for_a_length : command_by (codes "code") (record on_a_board { goal = Some (codes "length") }) ≡ Some (schedule code (codes "A") (codes "H") untold)
for_a_length = refl

no_goal : command_by (codes "code") (record on_a_board { goal = Some (codes "time") }) ≡ None
no_goal = refl

-- a name, and what it takes
another_name : command_by (codes "charts") on_a_board ≡ None
another_name = refl

a_graph : command_by (codes "graph") on_a_board ≡ Some (graph (codes "A"))
a_graph = refl

no_table : command_by (codes "plot") on_a_board ≡ None
no_table = refl

a_plot : command_by (codes "plot") (record on_a_board { sensors = Some (codes "S") }) ≡ Some (plot (codes "A") (codes "S"))
a_plot = refl

some_dates : command_by (codes "dates") (record on_a_board { durations = Some (codes "G"); reactions = Some (codes "1000") })
    ≡ Some (dates drawn (codes "A") (codes "H") (codes "G") 1000 untold)
some_dates = refl

too_many_dates : command_by (codes "dates") (record on_a_board { durations = Some (codes "G"); reactions = Some (codes "1001") }) ≡ None
too_many_dates = refl

-- a trace takes the last two words, or neither
traced_dates : command_by (codes "trace") (record on_a_board { durations = Some (codes "G"); reactions = Some (codes "2") })
    ≡ Some (dates traced (codes "A") (codes "H") (codes "G") 2 untold)
traced_dates = refl

half_traced : command_by (codes "trace") (record on_a_board { durations = Some (codes "G") }) ≡ None
half_traced = refl

-- how many reactions a report counts
three_reactions : command_by (codes "report") (record on_a_board { reactions = Some (codes "3") }) ≡ Some (schedule (report 3) (codes "A") (codes "H") untold)
three_reactions = refl

no_reactions : command_by (codes "report") (record on_a_board { reactions = Some (codes "0") }) ≡ None
no_reactions = refl

-- what takes no architecture, or one if it is there
a_table : command_by (codes "table") (record nothing { algorithm = Some (codes "A") }) ≡ Some (table (codes "A"))
a_table = refl

a_lint : command_by (codes "lint") (record nothing { algorithm = Some (codes "A") }) ≡ Some (lint (codes "A") None)
a_lint = refl

a_lint_of_both : command_by (codes "lint") on_a_board ≡ Some (lint (codes "A") (Some (codes "H")))
a_lint_of_both = refl

no_code : command_by (codes "why") on_a_board ≡ None
no_code = refl

a_why : command_by (codes "why") (record on_a_board { macros = Some (codes "C") }) ≡ Some (why (codes "A") (codes "H") (codes "C"))
a_why = refl

-- help, by both of its names
helped : command_by (codes "help") nothing ≡ Some help
helped = refl

flagged : command_by (codes "--help") nothing ≡ Some help
flagged = refl
