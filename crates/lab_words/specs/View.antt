-- The commands of the program as commands of the table, and texts as their bytes.
use Rattle.std.specs.Prelude.{option_map}
use Rattle.lab_words.specs.Command as table
use Rattle.lab_words.specs.declared.given.Values.{Values}
use Rattle.lab_words.specs.declared.commands.Command.{Command}
use Rattle.lab_words.specs.declared.commands.Command.TheVariants.{
  Help,
  Schedule,
  Algorithm,
  Lint,
  Why,
  Plot,
  Dates,
}
use Rattle.lab_words.specs.declared.commands.Effort.{Effort}
use Rattle.lab_words.specs.declared.commands.Form.{Form}
use Rattle.lab_words.specs.declared.commands.Form.TheVariants.{Drawn, Traced}
use Rattle.lab_words.specs.declared.commands.Goal.{Goal}
use Rattle.lab_words.specs.declared.commands.Goal.TheVariants.{Length, Period}
use Rattle.lab_words.specs.declared.commands.Subject.{Subject}
use Rattle.lab_words.specs.declared.commands.Subject.TheVariants.{Chart, Trace, Flat, Code, Report}

-- A goal of the program as a goal of the table.
abbrev pub goal_view : Goal → table.Goal
goal_view Length = table.for_length
goal_view Period = table.for_period

-- An effort of the program as an effort of the table.
abbrev pub effort_view : Effort → table.Effort
effort_view effort = record { tries = effort.tries; seed = effort.seed; goal = goal_view effort.goal }

-- What the program writes of a schedule, as the table has it.
abbrev pub subject_view : Subject → table.Subject
subject_view Chart = table.chart
subject_view Trace = table.trace
subject_view Flat = table.flat
subject_view Code = table.code
subject_view (Report n) = table.report n

-- A form of dates in the program as a form of the table.
abbrev pub form_view : Form → table.Form
form_view Drawn = table.drawn
form_view Traced = table.traced

-- A command of the program as a command of the table.
abbrev pub view_of : Command → table.Command
view_of Help = table.help
view_of (Schedule subject a h effort) = table.schedule (subject_view subject) a.now h.now (effort_view effort)
view_of (Algorithm text a) = table.of_algorithm text a.now
view_of (Lint a h) = table.lint a.now (option_map (λ t. t.now) h)
view_of (Why a h c) = table.why a.now h.now c.now
view_of (Plot a s) = table.plot a.now s.now
view_of (Dates form a h g n effort) = table.dates (form_view form) a.now h.now g.now n (effort_view effort)

abbrev pub values_view : Values → table.Values
values_view v = record {
  algorithm = option_map (λ t. t.now) v.algorithm;
  architecture = option_map (λ t. t.now) v.architecture;
  macros = option_map (λ t. t.now) v.macros;
  sensors = option_map (λ t. t.now) v.sensors;
  durations = option_map (λ t. t.now) v.durations;
  reactions = option_map (λ t. t.now) v.reactions;
  tries = option_map (λ t. t.now) v.tries;
  seed = option_map (λ t. t.now) v.seed;
  goal = option_map (λ t. t.now) v.goal;
}
