-- What the commands that run no job answer.
use Rattle.std.specs.Prelude.{◌≡◌, Option, Some, None}
use Rattle.command_words.specs.Command.{Command}
use Rattle.word_rule.specs.Driven.{Driven, driven_by}
use Rattle.top_plans.specs.Shelf.{Held}
use Rattle.top_plans.specs.Sink.{Sunk}
use Rattle.top_plans.specs.Ending.{Ending}
use Rattle.top_plans.specs.Run.{Ran}
use Rattle.top_plans.specs.Status.{Refusal, ending_of}
use Rattle.top_plans.specs.declared.Status.{Status}
use Rattle.top_plans.specs.Given.{performed}
use Rattle.top_plans.specs.Names.{RunsJobs}
use Rattle.top_plans.specs.Plans.{plan_for}
use Rattle.top_plans.specs.Replies.{PlainReplies}

-- a command that runs jobs is left as it is; the plan of any other one was carried out, whatever is driven
abbrev pub IsRunOrPlain : Command → Held → Held → Sunk → Sunk → Option Status → Type 0
IsRunOrPlain command held held' sunk sunk' None = RunsJobs command × (held' ≡ held) × (sunk' ≡ sunk)
IsRunOrPlain command held held' sunk sunk' (Some status) =
    ¬ RunsJobs command ×
    ((driven : Driven) →
    Ran driven_by performed (plan_for command) held held' sunk sunk' driven driven (ending_of status))

-- the ending that a status stands for, if there is one
abbrev pub ending_in : Option Status → Option (Ending Refusal)
ending_in None = None
ending_in (Some status) = Some (ending_of status)

-- what is answered for the words, where nothing is written to the error stream
abbrev pub RepliesOrLeaves : Option Command → Held → Held → Sunk → Sunk → Option Status → Type 0
RepliesOrLeaves command held held' sunk sunk' answer =
    (err : Sunk) → PlainReplies command held held' sunk sunk' err err (ending_in answer)
