-- For which words nothing is read.
use Rattle.std.specs.Prelude.{◌≡◌, Option, Some, None}
use Rattle.command_words.specs.Command.{Command, job, load}
use Rattle.top_plans.specs.Shelf.{Held}

-- nothing is read for words that are no command, or for a load
abbrev pub LeavesUnread : Option Command → Held → Held → Type 0
LeavesUnread None held held' = held' ≡ held
LeavesUnread (Some (job (load n))) held held' = held' ≡ held
LeavesUnread (Some _) held held' = Unit {0}
