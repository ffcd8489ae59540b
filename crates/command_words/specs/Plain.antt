-- The commands by their kinds, their plain arguments and what is given as workers.
use Rattle.std.specs.Prelude.{List, [], ◌∷◌, Option, Some, None, option_and_then}
use Rattle.syn_base.specs.Bytes.{Bytes}
use Rattle.command_words.specs.Table.{table, kind_named}
use Rattle.command_words.specs.Command.{
  Command,
  plain,
  job,
  check,
  sim,
  run,
  exec,
  algorithm_text,
  schedule_text,
  one,
  two,
  one_or_two,
  four,
  loaded,
  dated,
  number_up_to,
  with_count,
}
use Rattle.command_words.specs.declared.table.CommandKind.{CommandKind}
use Rattle.command_words.specs.declared.table.CommandKind.TheVariants.{
  Check,
  Sim,
  Algorithm,
  Schedule,
  Run,
  Load,
  Exec,
  Dates,
}

-- One to four plain arguments as a list of words.
abbrev pub plain_words : Bytes → Option Bytes → Option Bytes → Option Bytes → List Bytes
plain_words a None c d = a ∷ []
plain_words a (Some b) None d = a ∷ b ∷ []
plain_words a (Some b) (Some c) None = a ∷ b ∷ c ∷ []
plain_words a (Some b) (Some c) (Some d) = a ∷ b ∷ c ∷ d ∷ []

-- A run of three files with what is given as workers, and None if that is no number of them.
abbrev pub run_with : Bytes → Bytes → Bytes → Option Bytes → Option Command
run_with a h s None = Some (job (run a h s None))
run_with a h s (Some w) = with_count (λ workers. Some (job (run a h s workers))) (number_up_to 80 w)

-- A run of these words with what is given as workers, and None if they are not three files.
abbrev pub run_given : List Bytes → Option Bytes → Option Command
run_given (a ∷ h ∷ s ∷ []) w = run_with a h s w
run_given _ w = None

-- A run of macro-code and three files with what is given as workers, and None if that is no number
-- of them.
abbrev pub exec_with : Bytes → Bytes → Bytes → Bytes → Option Bytes → Option Command
exec_with a h c s None = Some (job (exec a h c s None))
exec_with a h c s (Some w) = with_count (λ workers. Some (job (exec a h c s workers))) (number_up_to 80 w)

-- A run of macro-code by these words with what is given as workers, and None if they are not four
-- files.
abbrev pub exec_given : List Bytes → Option Bytes → Option Command
exec_given (a ∷ h ∷ c ∷ s ∷ []) w = exec_with a h c s w
exec_given _ w = None

-- The command of this kind with these plain arguments and what is given as workers, and None if it
-- takes others.
abbrev pub command_with : CommandKind → List Bytes → Option Bytes → Option Command
command_with Check ws w = one_or_two (λ a h. Some (plain (check a h))) ws
command_with Sim ws w = two (λ a s. Some (plain (sim a s))) ws
command_with (Algorithm text) ws w = one (λ a. Some (plain (algorithm_text text a))) ws
command_with (Schedule text) ws w = two (λ a h. Some (plain (schedule_text text a h))) ws
command_with Run ws w = run_given ws w
command_with Load ws w = one (λ n. loaded (number_up_to 1000 n)) ws
command_with Exec ws w = exec_given ws w
command_with Dates ws w = four (λ a h g n. dated a h g (number_up_to 1000 n)) ws

-- The command of this name with these plain arguments and what is given as workers, and None if the
-- table has no such command.
abbrev pub command_named : Bytes → List Bytes → Option Bytes → Option Command
command_named name ws w = option_and_then (λ kind. command_with kind ws w) (kind_named table name)
