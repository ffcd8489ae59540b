-- The plan of each command: which files it reads, in which order it is refused, and what it asks for.
use Rattle.std.specs.Prelude.{◌++◌, ◌*◌, ℕ, length, sum, Option, Some, None}
use Rattle.top_plans.specs.Outputs.{excess}
use Rattle.syn_base.specs.Bytes.{Bytes}
use Rattle.syn_base.specs.Rows.{Reactions}
use Rattle.algo_text.specs.declared.definition.Defs.{Defs}
use Rattle.algo_tree.specs.Tree.{Vertex}
use Rattle.algo_tree.specs.Ends.{actuator_lengths}
use Rattle.self_timed.specs.Text.{Described}
use Rattle.self_timed.specs.Archi.{Architecture as Archi}
use Rattle.self_timed.specs.Sequences.{sequences}
use Rattle.self_timed.specs.Table.{Table}
use Rattle.self_timed.specs.Graph.{Graph}
use Rattle.self_timed.specs.declared.Program.{Program}
use Rattle.check_places.specs.Why.{why as reason}
use Rattle.why_text.specs.Text.{answer_text, setting}
use Rattle.sync_meaning.specs.Simulated.{simulated}
use Rattle.definition_drawing.specs.Drawing.{drawing}
use Rattle.text_lint.specs.Algorithm.{algorithm_findings}
use Rattle.text_lint.specs.Architecture.{architecture_findings}
use Rattle.text_lint.specs.Printed.{findings_text}
use Rattle.svg_text.specs.Plot as signal
use Rattle.top_plans.specs.declared.File.TheVariants.{Architecture, Code, Durations}
use Rattle.top_plans.specs.FlatOf.{flat_of}
use Rattle.top_plans.specs.ReadText.{program_in}
use Rattle.top_plans.specs.ActNames.{actuator_names}
use Rattle.top_plans.specs.Template.{template_text}
use Rattle.top_plans.specs.Plan.{Plan, after, give, refuse}
use Rattle.top_plans.specs.Status.{Refusal, of_code, usage}
use Rattle.top_plans.specs.Plans.{
  algorithm_plan,
  architecture_in,
  architecture_plan,
  described_in,
  table_plan,
  read_file,
  unless,
}
use Rattle.lab_words.specs.Command.{
  Command,
  Effort,
  Form,
  Subject,
  help,
  schedule,
  graph,
  table,
  lint,
  why,
  plot,
  dates,
}
use Rattle.lab_words.specs.Help.{help_text}
use Rattle.lab_plans.specs.Asked.{Asked, Request, of_text, of_schedule, of_dates}

-- The plan of a command of the second program: in the end it gives what is asked for, or refuses.
abbrev pub Asks : Type 0
Asks = Plan Refusal Asked

-- an algorithm on an architecture, with the durations of its operations
abbrev pub request : Vertex → Described → Table → Effort → Request
request main d t effort = record { graph = flat_of main; archi = d.archi; table = t; effort = effort }

-- something of a schedule
abbrev pub schedule_plan : Subject → Bytes → Bytes → Effort → Asks
schedule_plan subject a h effort =
    algorithm_plan a (λ defs main.
    architecture_plan h main (λ d t. give (of_schedule subject (request main d t effort))))

-- the definitions as a graph
abbrev pub graph_plan : Bytes → Asks
graph_plan a = algorithm_plan a (λ defs main. give (of_text (drawing defs)))

-- the sensor table that the algorithm wants, with one reaction of zeros
abbrev pub template_plan : Bytes → Asks
template_plan a = algorithm_plan a (λ defs main. give (of_text (template_text main)))

-- what is accepted and probably not meant, in definitions, and in the text of an architecture beside them
abbrev pub lint_of_algorithm : Defs → Bytes
lint_of_algorithm defs = findings_text (algorithm_findings defs.defs)

-- The findings in the definitions of an algorithm, and after them those in the text of an
-- architecture.
abbrev pub lint_of_both : Defs → Bytes → Described → Bytes
lint_of_both defs text d = lint_of_algorithm defs ++ findings_text (architecture_findings defs.defs text d)

-- after an algorithm, with an architecture beside it where one is named
abbrev pub lint_behind : Option Bytes → Defs → Vertex → Asks
lint_behind None defs main = give (of_text (lint_of_algorithm defs))
lint_behind (Some h) defs main =
    read_file Architecture h (λ text. architecture_in text main (λ d t. give (of_text (lint_of_both defs text d))))

-- The plan of `lint`: the findings in the algorithm in file a and, if one is named, in the
-- architecture in file h.
abbrev pub lint_plan : Bytes → Option Bytes → Asks
lint_plan a h = algorithm_plan a (lint_behind h)

-- why the program of a text of macro-code is refused, if it is
abbrev pub why_answer : Bytes → Graph → Archi → Program → Bytes
why_answer text g a p =
    answer_text (setting text g a p) (reason p g.vertices (sequences a) (length a.operators) (length a.media))

-- Take the text of macro-code for a flat graph on an architecture, and say what its program lacks,
-- or refuse the text.
abbrev pub why_of_code : Graph → Archi → Bytes → Asks
why_of_code g a text = after of_code (program_in text g a) (λ p. give (of_text (why_answer text g a p)))

-- Durations of the architecture are passed over.
abbrev pub why_behind_text : Bytes → Vertex → Described → Asks
why_behind_text c main d = read_file Code c (λ text. why_of_code (flat_of main) d.archi text)

-- The plan of `why` after the algorithm: it reads the file of the architecture, and then that of
-- the macro-code.
abbrev pub why_behind : Bytes → Bytes → Defs → Vertex → Asks
why_behind h c defs main = read_file Architecture h (λ lines. described_in lines (why_behind_text c main))

-- The plan of `why`: the reason, if there is one, why the macro-code in file c is refused for the
-- algorithm in file a on the architecture in file h.
abbrev pub why_plan : Bytes → Bytes → Bytes → Asks
why_plan a h c = algorithm_plan a (why_behind h c)

-- what the actuators take, as a picture, where it is within its bound
abbrev pub plotted : Vertex → Reactions → Asks
plotted main rows =
    unless (excess (length rows.reactions * sum (actuator_lengths main)))
    (give (of_text (signal.plot (actuator_names main) (simulated main rows))))

-- The plan of `plot`: a picture of what the actuators of the algorithm in file a take over the rows
-- of the table in file s, if the output is within its bound.
abbrev pub plot_plan : Bytes → Bytes → Asks
plot_plan a s = algorithm_plan a (λ defs main. table_plan main s (plotted main))

-- The durations that really occur are read before a schedule is searched, and judged after.
abbrev pub dates_plan : Form → Bytes → Bytes → Bytes → ℕ → Effort → Asks
dates_plan form a h g n effort =
    algorithm_plan a (λ defs main.
    architecture_plan h main (λ d t.
    read_file Durations g (λ text. give (of_dates form (request main d t effort) text n))))

-- The plan of a command.
abbrev pub plan_for : Command → Asks
plan_for help = give (of_text help_text)
plan_for (schedule subject a h effort) = schedule_plan subject a h effort
plan_for (graph a) = graph_plan a
plan_for (table a) = template_plan a
plan_for (lint a h) = lint_plan a h
plan_for (why a h c) = why_plan a h c
plan_for (plot a s) = plot_plan a s
plan_for (dates form a h g n effort) = dates_plan form a h g n effort

-- the plan of the words
abbrev pub plan_of : Option Command → Asks
plan_of None = refuse usage
plan_of (Some command) = plan_for command
