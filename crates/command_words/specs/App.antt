-- The commands as `clap` is told of them.
use Rattle.std.specs.Prelude.{Bool, List, [], ◌∷◌, true, false, codes, Some}
use Rattle.clap.specs.Walk.{Rule}
use Rattle.clap.specs.Simple.{App, new_app, new_rule, with_rule, with_subcommand, on_top}
use Rattle.syn_base.specs.Bytes.{Bytes}
use Rattle.command_words.specs.Table.{Row, table}
use Rattle.command_words.specs.declared.table.CommandKind.{CommandKind}
use Rattle.command_words.specs.declared.table.CommandKind.TheVariants as kind
use Rattle.command_words.specs.declared.given.Form.{Form}
use Rattle.command_words.specs.declared.given.Form.TheVariants.{One, Two, Four, Working}

-- a plain argument, which may have to be there
abbrev pub argument : Bytes → Bool → Rule
argument id needed = record (new_rule id) { required = needed }

abbrev pub one_app : Bytes → App
one_app name = with_rule (new_app name) (argument (codes "first") true)

abbrev pub two_app : Bool → Bytes → App
two_app needed name = with_rule (one_app name) (argument (codes "second") needed)

abbrev pub four_app : Bool → Bytes → App
four_app needed name =
    with_rule (with_rule (two_app true name) (argument (codes "third") true)) (argument (codes "fourth") needed)

-- the option that may be given beside the plain arguments of `run` and `exec`
abbrev pub workers_rule : Rule
workers_rule = record (new_rule (codes "workers")) { long = Some (codes "workers") }

-- Those two differ in whether the fourth argument has to be there; a `run` with one is no command.
abbrev pub working_app : Bool → Bytes → App
working_app needed name = with_rule (four_app needed name) workers_rule

-- The command of this form and name.
abbrev pub form_app : Form → Bytes → App
form_app One name = one_app name
form_app (Two needed) name = two_app needed name
form_app (Four needed) name = four_app needed name
form_app (Working needed) name = working_app needed name

-- Which words a command of this kind takes.
abbrev pub form_of : CommandKind → Form
form_of kind.Check = Two false
form_of kind.Sim = Two true
form_of (kind.Algorithm text) = One
form_of (kind.Schedule text) = Two true
form_of kind.Run = Working false
form_of kind.Load = One
form_of kind.Exec = Working true
form_of kind.Dates = Four true

-- The command of this row.
abbrev pub row_app : Row → App
row_app r = form_app (form_of r.1) r.0

-- The program without its commands. It has no help of its own, and it requires a command.
abbrev pub bare_app : App
bare_app =
    on_top (λ s. record s { disable_help_flag = true; disable_help_subcommand = true; subcommand_required = true })
    (new_app (codes "syndex"))

-- with the commands of these rows added one after another
abbrev pub with_commands : App → List Row → App
with_commands a [] = a
with_commands a (r ∷ rs) = with_commands (with_subcommand a (row_app r).top) rs

-- the program
abbrev pub the_app : App
the_app = with_commands bare_app table
