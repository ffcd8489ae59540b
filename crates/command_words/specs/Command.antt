-- Which command the words of the command line are. The first word is the program's name.
use Rattle.std.specs.Prelude.{
  ℕ,
  Bool,
  true,
  false,
  ◌&&◌,
  ◌==◌,
  nat_le,
  List,
  [],
  ◌∷◌,
  length,
  take,
  drop,
  Option,
  Some,
  None,
  option_and_then,
  if◌then◌else◌,
  codes,
}
use Rattle.std.specs.List.{list_all}
use Rattle.std.specs.Str.{bytes_eq}
use Rattle.syn_base.specs.Bytes.{Bytes}
use Rattle.syn_base.specs.Name.{is_digit}
use Rattle.syn_base.specs.Integer.{number_of}
use Rattle.command_words.specs.Table.{table, kind_named}
use Rattle.command_words.specs.declared.table.AlgorithmText.{AlgorithmText}
use Rattle.command_words.specs.declared.table.ScheduleText.{ScheduleText}
use Rattle.command_words.specs.declared.table.CommandKind.{CommandKind}
use Rattle.command_words.specs.declared.table.CommandKind.TheVariants.{
  Check,
  Sim,
  Algorithm,
  Schedule,
  Run,
  Load,
  Exec,
  Dates,
}

-- A command that runs no job. Files go by their names.
pub data PlainCommand : Type 0 where
  -- the algorithm, and the architecture if there is one
  check : Bytes → Option Bytes → PlainCommand
  -- the algorithm
  algorithm_text : AlgorithmText → Bytes → PlainCommand
  -- the algorithm and the architecture
  schedule_text : ScheduleText → Bytes → Bytes → PlainCommand
  -- the algorithm, the architecture, the durations that really occur, and the number of reactions
  dates : Bytes → Bytes → Bytes → ℕ → PlainCommand
  -- the algorithm and the sensor table
  sim : Bytes → Bytes → PlainCommand

-- A command that runs jobs.
pub data JobCommand : Type 0 where
  -- the algorithm, the architecture and the sensor table, and the number of workers if it is given
  run : Bytes → Bytes → Bytes → Option ℕ → JobCommand
  -- the algorithm, the architecture, the code and the sensor table, and the number of workers if it is given
  exec : Bytes → Bytes → Bytes → Bytes → Option ℕ → JobCommand
  -- the number of layers
  load : ℕ → JobCommand

-- A command, which runs no job or runs jobs.
pub data Command : Type 0 where
  plain : PlainCommand → Command
  job : JobCommand → Command

-- one or more digits, which give a number from 1 up to this one
abbrev pub number_up_to : ℕ → Bytes → Option ℕ
number_up_to most w =
    if nat_le 1 (length w) && list_all is_digit w && nat_le 1 (number_of w) && nat_le (number_of w) most
    then Some (number_of w) else None

-- the plain arguments after the command, and what is given as workers
pub record Arguments : Type 0 where
  pub plain : List Bytes
  pub workers : List Bytes

-- The arguments with this word before their plain ones, and None if the words after it are no
-- arguments.
abbrev pub with_plain : Bytes → Option Arguments → Option Arguments
with_plain w None = None
with_plain w (Some a) = Some (record a { plain = w ∷ a.plain })

-- The arguments with this word before what is given as workers, and None if the words after it are
-- no arguments.
abbrev pub with_workers : Bytes → Option Arguments → Option Arguments
with_workers w None = None
with_workers w (Some a) = Some (record a { workers = w ∷ a.workers })

-- `-` alone and the empty word are plain
abbrev pub is_option : Bytes → Bool
is_option [] = false
is_option (b ∷ []) = false
is_option (b ∷ c ∷ w) = b == 45

-- The word begins with `--workers=`, and its rest is what is given as workers.
abbrev pub is_joined : Bytes → Bool
is_joined w = bytes_eq (take 10 w) (codes "--workers=")

-- Words after the command, one of which may be awaited as a number of workers. `--` ends the options. Workers may be
-- given where the command takes them; no other word may begin with `-`.
abbrev pub arguments_of : (takes awaited : Bool) → List Bytes → Option Arguments
arguments_of takes true [] = None
arguments_of takes false [] = Some (record { plain = []; workers = [] })
arguments_of takes true (w ∷ ws) = with_workers w (arguments_of takes false ws)
arguments_of takes false (w ∷ ws) =
    if bytes_eq w (codes "--") then Some (record { plain = ws; workers = [] }) else
    if takes && bytes_eq w (codes "--workers") then arguments_of takes true ws else
    if takes && is_joined w then with_workers (drop 10 w) (arguments_of takes false ws) else
    if is_option w then None else
    with_plain w (arguments_of takes false ws)

-- by the plain arguments
abbrev pub one : (Bytes → Option Command) → List Bytes → Option Command
one go (a ∷ []) = go a
one go _ = None

-- The command of two plain arguments, and None if there are more or fewer.
abbrev pub two : (Bytes → Bytes → Option Command) → List Bytes → Option Command
two go (a ∷ b ∷ []) = go a b
two go _ = None

-- The command of one plain argument or of two, and None if there are more or none.
abbrev pub one_or_two : (Bytes → Option Bytes → Option Command) → List Bytes → Option Command
one_or_two go (a ∷ []) = go a None
one_or_two go (a ∷ b ∷ []) = go a (Some b)
one_or_two go _ = None

-- The command of three plain arguments, and None if there are more or fewer.
abbrev pub three : (Bytes → Bytes → Bytes → Option Command) → List Bytes → Option Command
three go (a ∷ b ∷ c ∷ []) = go a b c
three go _ = None

-- The command of four plain arguments, and None if there are more or fewer.
abbrev pub four : (Bytes → Bytes → Bytes → Bytes → Option Command) → List Bytes → Option Command
four go (a ∷ b ∷ c ∷ d ∷ []) = go a b c d
four go _ = None

-- The command `load` with this number, and None if there is no number.
abbrev pub loaded : Option ℕ → Option Command
loaded None = None
loaded (Some n) = Some (job (load n))

-- The command `dates` of these three files and this number of reactions, and None if there is no
-- number.
abbrev pub dated : Bytes → Bytes → Bytes → Option ℕ → Option Command
dated a h g None = None
dated a h g (Some n) = Some (plain (dates a h g n))

-- The command with this number of workers, and None if there is no number.
abbrev pub with_count : (Option ℕ → Option Command) → Option ℕ → Option Command
with_count go None = None
with_count go (Some n) = go (Some n)

-- workers are given at most once
abbrev pub counted : (Option ℕ → Option Command) → List Bytes → Option Command
counted go [] = go None
counted go (w ∷ []) = with_count go (number_up_to 80 w)
counted go (w ∷ v ∷ ws) = None

-- The command of the plain arguments, and None if there are no arguments.
abbrev pub plain_by : (List Bytes → Option Command) → Option Arguments → Option Command
plain_by go None = None
plain_by go (Some a) = go a.plain

-- The command `run` of these arguments: three files, and a number of workers if one is given. It is
-- None if the arguments are others.
abbrev pub run_by : Option Arguments → Option Command
run_by None = None
run_by (Some a) =
    counted (λ workers. three (λ alg archi sensors. Some (job (run alg archi sensors workers))) a.plain) a.workers

-- The command `exec` of these arguments: four files, and a number of workers if one is given. It is
-- None if the arguments are others.
abbrev pub exec_by : Option Arguments → Option Command
exec_by None = None
exec_by (Some a) =
    counted (λ workers. four (λ alg archi code sensors. Some (job (exec alg archi code sensors workers))) a.plain)
    a.workers

-- The command of the words after its name, for one that takes plain arguments only. It is None if a
-- word is taken for an option.
abbrev pub plainly : (List Bytes → Option Command) → List Bytes → Option Command
plainly go ws = plain_by go (arguments_of false false ws)

-- Which command words are that stand after the name of one of this kind, and None if they are none of
-- it.
abbrev pub command_of_kind : CommandKind → List Bytes → Option Command
command_of_kind Check ws = plainly (one_or_two (λ a h. Some (plain (check a h)))) ws
command_of_kind Sim ws = plainly (two (λ a s. Some (plain (sim a s)))) ws
command_of_kind (Algorithm text) ws = plainly (one (λ a. Some (plain (algorithm_text text a)))) ws
command_of_kind (Schedule text) ws = plainly (two (λ a h. Some (plain (schedule_text text a h)))) ws
command_of_kind Run ws = run_by (arguments_of true false ws)
command_of_kind Load ws = plainly (one (λ n. loaded (number_up_to 1000 n))) ws
command_of_kind Exec ws = exec_by (arguments_of true false ws)
command_of_kind Dates ws = plainly (four (λ a h g n. dated a h g (number_up_to 1000 n))) ws

-- The command of this name and of the words after it, and None if they are no command of the table.
abbrev pub command_by : Bytes → List Bytes → Option Command
command_by name ws = option_and_then (λ kind. command_of_kind kind ws) (kind_named table name)

-- the command of these words, if they are one
abbrev pub command_of : List Bytes → Option Command
command_of [] = None
command_of (program ∷ []) = None
command_of (program ∷ name ∷ ws) = command_by name ws
