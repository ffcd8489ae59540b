-- The commands, as `clap` is told of them.
use Rattle.std.specs.Prelude.{List, [], ◌∷◌, true, codes, Some}
use Rattle.clap.specs.Walk.{Rule}
use Rattle.clap.specs.Simple.{App, new_app, new_rule, with_rule, with_subcommand, on_top}
use Rattle.syn_base.specs.Bytes.{Bytes}
use Rattle.lab_words.specs.Table.{Row, table}
use Rattle.lab_words.specs.declared.table.CommandKind.{CommandKind}
use Rattle.lab_words.specs.declared.table.CommandKind.TheVariants.{
  Help,
  Algorithm,
  Lint,
  Plot,
  Why,
  Schedule,
  Report,
  Trace,
  Dates,
}

-- a plain argument, which has to be there
abbrev pub needed : Bytes → Rule
needed id = record (new_rule id) { required = true }

-- a plain argument that may be there
abbrev pub optional : Bytes → Rule
optional id = new_rule id

-- an option that may be there, which is named as its value is
abbrev pub option : Bytes → Rule
option id = record (new_rule id) { long = Some id }

-- with the options of a search
abbrev pub searching : App → App
searching a =
    with_rule (with_rule (with_rule a (option (codes "tries"))) (option (codes "seed"))) (option (codes "for"))

-- The command of this name that takes an algorithm.
abbrev pub algorithm_app : Bytes → App
algorithm_app name = with_rule (new_app name) (needed (codes "algorithm"))

-- The command of this name that takes an algorithm and an architecture.
abbrev pub architecture_app : Bytes → App
architecture_app name = with_rule (algorithm_app name) (needed (codes "architecture"))

-- The command of this name that takes an algorithm and, if one is given, an architecture.
abbrev pub lint_app : Bytes → App
lint_app name = with_rule (algorithm_app name) (optional (codes "architecture"))

-- The command of this name that takes an algorithm, an architecture and a text of macro-code.
abbrev pub why_app : Bytes → App
why_app name = with_rule (architecture_app name) (needed (codes "code"))

-- The command of this name that takes an algorithm and a sensor table.
abbrev pub plot_app : Bytes → App
plot_app name = with_rule (algorithm_app name) (needed (codes "sensors"))

-- The command of this name that takes an algorithm, an architecture and the options of a search.
abbrev pub schedule_app : Bytes → App
schedule_app name = searching (architecture_app name)

-- The command of this name that takes an algorithm, an architecture, a number of reactions if one
-- is given, and the options of a search.
abbrev pub report_app : Bytes → App
report_app name = searching (with_rule (architecture_app name) (optional (codes "reactions")))

-- The command of this name that takes an algorithm, an architecture, actual durations and a number
-- of reactions if they are given, and the options of a search.
abbrev pub trace_app : Bytes → App
trace_app name =
    searching (with_rule (with_rule (architecture_app name) (optional (codes "durations")))
    (optional (codes "reactions")))

-- The command of this name that takes an algorithm, an architecture, actual durations, a number of
-- reactions, and the options of a search.
abbrev pub dates_app : Bytes → App
dates_app name =
    searching (with_rule (with_rule (architecture_app name) (needed (codes "durations"))) (needed (codes "reactions")))

-- The command of this kind and name.
abbrev pub kind_app : CommandKind → Bytes → App
kind_app Help name = new_app name
kind_app (Algorithm text) name = algorithm_app name
kind_app Lint name = lint_app name
kind_app Plot name = plot_app name
kind_app Why name = why_app name
kind_app (Schedule text) name = schedule_app name
kind_app Report name = report_app name
kind_app Trace name = trace_app name
kind_app Dates name = dates_app name

-- The program without its commands. It requires a command, and it has no help that `clap` makes.
abbrev pub bare_app : App
bare_app =
    on_top (λ s. record s { disable_help_flag = true; disable_help_subcommand = true; subcommand_required = true })
    (new_app (codes "syndex_lab"))

-- with the commands of these rows added one after another
abbrev pub with_commands : App → List Row → App
with_commands a [] = a
with_commands a (r ∷ rs) = with_commands (with_subcommand a (kind_app r.1 r.0).top) rs

-- the table
abbrev pub the_app : App
the_app = with_commands bare_app table
