-- Which command the words of the command line are. The first word is the program's name.
use Rattle.std.specs.Prelude.{
  ℕ,
  List,
  Option,
  Some,
  None,
  option_and_then,
  option_map,
  if◌then◌else◌,
  codes,
}
use Rattle.std.specs.Str.{bytes_eq}
use Rattle.clap.specs.Walk.{Row, first_of, is_empty}
use Rattle.clap.specs.Simple.{subcommand_of}
use Rattle.clap.specs.Faults.{fault_of}
use Rattle.syn_base.specs.Bytes.{Bytes}
use Rattle.command_words.specs.Command.{number_up_to}
use Rattle.command_words.specs.Table.{kind_named}
use Rattle.lab_words.specs.Table.{table as rows}
use Rattle.lab_words.specs.declared.table.AlgorithmText.{AlgorithmText}
use Rattle.lab_words.specs.declared.table.AlgorithmText.TheVariants.{Graph, Table}
use Rattle.lab_words.specs.declared.table.ScheduleText.{ScheduleText}
use Rattle.lab_words.specs.declared.table.ScheduleText.TheVariants.{Chart, Flat, Code}
use Rattle.lab_words.specs.declared.table.CommandKind.{CommandKind}
use Rattle.lab_words.specs.declared.table.CommandKind.TheVariants.{
  Help,
  Algorithm,
  Lint,
  Plot,
  Why,
  Schedule,
  Report,
  Trace,
  Dates,
}
use Rattle.lab_words.specs.App.{the_app}

-- what a search makes small: the length of the schedule, or its period
pub data Goal : Type 0 where
  for_length for_period : Goal

-- how a schedule is searched: the number of schedules that are tried, from which number the search draws, and for what
pub record Effort : Type 0 where
  pub tries : ℕ
  pub seed : ℕ
  pub goal : Goal

-- what is written of a schedule; a report counts so many reactions
pub data Subject : Type 0 where
  chart trace flat code : Subject
  report : ℕ → Subject

-- dates as a picture, or as trace events
pub data Form : Type 0 where
  drawn traced : Form

-- files go by their names
pub data Command : Type 0 where
  help : Command
  -- something of a schedule of the algorithm on the architecture
  schedule : Subject → Bytes → Bytes → Effort → Command
  -- of the algorithm: its definitions as a graph, and the sensor table that it wants
  graph table : Bytes → Command
  -- what is accepted and probably not meant, in the algorithm and in an architecture beside it
  lint : Bytes → Option Bytes → Command
  -- where macro-code fails that is checked for the algorithm on the architecture
  why : Bytes → Bytes → Bytes → Command
  -- the algorithm and the sensor table
  plot : Bytes → Bytes → Command
  -- the algorithm, the architecture, the actual durations, and the number of reactions
  dates : Form → Bytes → Bytes → Bytes → ℕ → Effort → Command

-- the most schedules that a search tries, and the greatest seed
abbrev pub most_tries : ℕ
most_tries = 1000000

-- the most reactions that are dated or counted
abbrev pub most_reactions : ℕ
most_reactions = 1000

-- the number of an option, or what stands for it where the option is not given
abbrev pub number_given : ℕ → ℕ → Option Bytes → Option ℕ
number_given most usual None = Some usual
number_given most usual (Some w) = number_up_to most w

-- The goal that this word names, `length` or `period`, and None for any other word.
abbrev pub goal_named : Bytes → Option Goal
goal_named w =
    if bytes_eq w (codes "length") then Some for_length else
    if bytes_eq w (codes "period") then Some for_period else None

-- The goal of a search by its option. Without the option it is the length, and it is None if the
-- option names no goal.
abbrev pub goal_given : Option Bytes → Option Goal
goal_given None = Some for_length
goal_given (Some w) = goal_named w

-- The effort of a search with these numbers and this goal, and None if one of them is missing.
abbrev pub effort_by : Option ℕ → Option ℕ → Option Goal → Option Effort
effort_by (Some tries) (Some seed) (Some goal) = Some (record { tries = tries; seed = seed; goal = goal })
effort_by _ _ _ = None

-- the values that were given for the arguments and options of a command
pub record Values : Type 0 where
  pub algorithm : Option Bytes
  pub architecture : Option Bytes
  pub macros : Option Bytes
  pub sensors : Option Bytes
  pub durations : Option Bytes
  pub reactions : Option Bytes
  pub tries : Option Bytes
  pub seed : Option Bytes
  pub goal : Option Bytes

-- The values that were found for the arguments and options of a command, by their names. Of each
-- name the first value counts.
abbrev pub values_of : List Row → Values
values_of rows = record {
  algorithm = first_of (codes "algorithm") rows;
  architecture = first_of (codes "architecture") rows;
  macros = first_of (codes "code") rows;
  sensors = first_of (codes "sensors") rows;
  durations = first_of (codes "durations") rows;
  reactions = first_of (codes "reactions") rows;
  tries = first_of (codes "tries") rows;
  seed = first_of (codes "seed") rows;
  goal = first_of (codes "for") rows;
}

-- the options of a search: without them nothing is tried
abbrev pub effort_given : Values → Option Effort
effort_given v = effort_by (number_given most_tries 0 v.tries) (number_given most_tries 1 v.seed) (goal_given v.goal)

-- a report, of 50 reactions where no number is given
abbrev pub report_given : Values → Option Subject
report_given v = option_map (λ n. report n) (number_given most_reactions 50 v.reactions)

-- What is written of a schedule, as the subject of the command that writes it.
abbrev pub subject_of : ScheduleText → Subject
subject_of Chart = chart
subject_of Flat = flat
subject_of Code = code

-- What is written of an algorithm by itself, as the command that writes it.
abbrev pub of_algorithm : AlgorithmText → Bytes → Command
of_algorithm Graph a = graph a
of_algorithm Table a = table a

-- The command of an algorithm on an architecture, and None if one of them is missing.
abbrev pub placed : (Bytes → Bytes → Option Command) → Values → Option Command
placed go v = option_and_then (λ a. option_and_then (go a) v.architecture) v.algorithm

-- The command that writes this of a schedule, and None if something that it takes is missing.
abbrev pub schedule_given : Subject → Values → Option Command
schedule_given subject v = placed (λ a h. option_map (schedule subject a h) (effort_given v)) v

-- The command that writes dates of an algorithm on an architecture in this form, and None if
-- something that it takes is missing.
abbrev pub dates_on : Form → Bytes → Bytes → Values → Option Command
dates_on form a h v =
    option_and_then (λ g. option_and_then (λ w. option_and_then (λ n.
    option_map (dates form a h g n) (effort_given v)) (number_up_to most_reactions w)) v.reactions) v.durations

-- The command that writes dates in this form, and None if something that it takes is missing.
abbrev pub dates_given : Form → Values → Option Command
dates_given form v = placed (λ a h. dates_on form a h v) v

-- The trace of dates if there are actual durations, and else that of the schedule.
abbrev pub trace_by : Option Bytes → Values → Option Command
trace_by None v = schedule_given trace v
trace_by (Some g) v = dates_given traced v

-- The command of this kind with these values, and None if they are not what it takes.
abbrev pub command_with : CommandKind → Values → Option Command
command_with Help v = Some help
command_with (Algorithm text) v = option_map (of_algorithm text) v.algorithm
command_with Lint v = option_map (λ a. lint a v.architecture) v.algorithm
command_with Plot v = option_and_then (λ a. option_map (plot a) v.sensors) v.algorithm
command_with Why v = placed (λ a h. option_map (why a h) v.macros) v
command_with (Schedule text) v = schedule_given (subject_of text) v
command_with Report v = option_and_then (λ subject. schedule_given subject v) (report_given v)
command_with Trace v = trace_by v.durations v
command_with Dates v = dates_given drawn v

-- The command of this name with these values, and None if the table has no such name or the command
-- takes other values.
abbrev pub command_by : Bytes → Values → Option Command
command_by name v = option_and_then (λ kind. command_with kind v) (kind_named rows name)

-- the command of what was found: the name of a command, and what was given for its arguments and options
abbrev pub command_in : Bytes × List Row → Option Command
command_in (name, rows) = command_by name (values_of rows)

-- the command of these words, where `clap` accepts them
abbrev pub command_of : List Bytes → Option Command
command_of words =
    if is_empty (fault_of the_app words) then option_and_then command_in (subcommand_of the_app words) else None
