-- What the public calls answer.
use Rattle.std.specs.Prelude.{◌≡◌, ◌⊎◌, ◌++◌, ℕ, List, Option, Some, None, Result, Ok, Err, IsOkAnd}
use Rattle.compiler.specs.Executions.{Execution, one_job, output_of}
use Rattle.syn_base.specs.Bytes.{Bytes}
use Rattle.command_status.specs.Faults.{Rose}
use Rattle.command_status.specs.Shelf.{Held}
use Rattle.command_status.specs.Sink.{Sunk, Appends, AppendsPrefix}
use Rattle.command_status.specs.Plan.{outcome, GivesOnly}
use Rattle.command_status.specs.Stage.{text_of, after_jobs}
use Rattle.command_status.specs.Ending.{Ending, done, refused, unwritten, no_memory}
use Rattle.command_status.specs.Run.{Ran}
use Rattle.command_status.specs.PlanAnswers.{Answers, IsOnce, RunsNone}
use Rattle.command_status.specs.Status.{Refusal, usage}
use Rattle.command_words.specs.Command.{Command, job, load, command_of}
use Rattle.word_rule.specs.Driven.{Driven, driven_by}
use Rattle.run_laws.specs.Windows.{window_jobs}
use Rattle.top_plans.specs.Names.{names_of, RunsJobs, IsPlain}
use Rattle.top_plans.specs.Given.{Given, written, printed, executed, summed, stages, performed}
use Rattle.top_plans.specs.Plans.{plan_of}
use Rattle.top_plans.specs.Meaning.{MakesTrue}
use Rattle.top_plans.specs.Values.{WritesValues}

-- The ending is that of the plan which the words ask for, it is Usage only for words that are no command, and what
-- all that is accepted makes runs true.
pub record Replies (command : Option Command) (held held' : Held) (sunk sunk' : Sunk) (driven driven' : Driven)
    (ending : Ending Refusal) : Type 0 where
  pub answers : Answers driven_by performed (plan_of command) (names_of command)
      held held' sunk sunk' driven driven' ending
  -- a refusal is the first one of the plan
  pub first : (refusal : Refusal) → ending ≡ refused refusal → (o : Result Given Refusal) →
      outcome held.told (plan_of command) ≡ Some o → o ≡ Err refusal
  -- where all is written by one call, nothing is appended with any ending but done and a fault of the output
  pub once : GivesOnly (IsOnce stages) (plan_of command) → (ending ≡ done) ⊎ (ending ≡ unwritten) ⊎ (sunk' ≡ sunk)
  -- where no job is run, nothing is driven
  pub idle : GivesOnly (RunsNone stages) (plan_of command) → driven' ≡ driven
  pub usage : ending ≡ refused usage → command ≡ None
  pub true_runs : (a : Given) → outcome held.told (plan_of command) ≡ Some (Ok a) → MakesTrue held.told command a

-- What a call that drives nothing replies: it is a reply of the command in which whatever is driven
-- stays, and nothing is appended with any ending but done and a fault of the output.
pub record RepliesPlainly (command : Option Command) (held held' : Held) (sunk sunk' : Sunk)
    (ending : Ending Refusal) : Type 0 where
  pub replies : (driven : Driven) → Replies command held held' sunk sunk' driven driven ending
  pub done_means : ending ≡ done → (o : Result Given Refusal) → outcome held.told (plan_of command) ≡ Some o →
      IsOkAnd o (λ a. Appends sunk sunk' (text_of (stages a)))
  pub unwritten_means : ending ≡ unwritten → Rose sunk.faults sunk'.faults
      × ((o : Result Given Refusal) → outcome held.told (plan_of command) ≡ Some o →
      IsOkAnd o (λ a. AppendsPrefix sunk sunk' (text_of (stages a))))
  pub nothing : (ending ≡ done) ⊎ (ending ≡ unwritten) ⊎ (sunk' ≡ sunk)

-- A command that runs jobs is left as it is: nothing was read, and nothing written.
abbrev pub LeavesJobs : Option Command → Held → Held → Sunk → Sunk → Type 0
LeavesJobs None held held' sunk sunk' = ⊥
LeavesJobs (Some command) held held' sunk sunk' = RunsJobs command × (held' ≡ held) × (sunk' ≡ sunk)

-- The call without threads answers none exactly for commands that run jobs, and says nothing then. Want of memory may
-- come for any words, before anything is read.
abbrev pub PlainReplies : Option Command → Held → Held → Sunk → Sunk → (err err' : Sunk) →
    Option (Ending Refusal) → Type 0
PlainReplies command held held' sunk sunk' err err' None = LeavesJobs command held held' sunk sunk' × (err' ≡ err)
PlainReplies command held held' sunk sunk' err err' (Some ending) =
    (IsPlain command × RepliesPlainly command held held' sunk sunk' ending) ⊎
    ((ending ≡ no_memory) × LeavesJobs command held held' sunk sunk')

-- What was carried out of the plan of the words replies.
abbrev pub CommandsReply : Type 0
CommandsReply =
    (command : Option Command) (held held' : Held) (sunk sunk' : Sunk) (driven driven' : Driven)
    (ending : Ending Refusal) →
    Ran driven_by performed (plan_of command) held held' sunk sunk' driven driven' ending →
    Replies command held held' sunk sunk' driven driven' ending

-- What a call without threads carried out of the plan of words that run no job, whatever is driven, replies plainly.
abbrev pub PlainCommandsReply : Type 0
PlainCommandsReply =
    (command : Option Command) → IsPlain command → (held held' : Held) (sunk sunk' : Sunk) (ending : Ending Refusal) →
    ((driven : Driven) → Ran driven_by performed (plan_of command) held held' sunk sunk' driven driven ending) →
    RepliesPlainly command held held' sunk sunk' ending

-- A load is written by one call, so that nothing is appended with any ending but done and a fault of the output.
abbrev pub LoadsKeep : Type 0
LoadsKeep = (n : ℕ) (held held' : Held) (sunk sunk' : Sunk) (driven driven' : Driven) (ending : Ending Refusal)
    → Replies (Some (job (load n))) held held' sunk sunk' driven driven' ending →
    (ending ≡ done) ⊎ (ending ≡ unwritten) ⊎ (sunk' ≡ sunk)

-- this text was appended, and the windows of the one job were run, one after another
pub record HasRun (text : Bytes) (e : Execution) (sunk sunk' : Sunk) (driven driven' : Driven) : Type 0 where
  pub output : Appends sunk sunk' text
  pub ran : driven' ≡ after_jobs driven_by (window_jobs (one_job e)) driven

-- what was to be made is made
abbrev pub IsMade : Given → Sunk → Sunk → Driven → Driven → Type 0
IsMade (written text) sunk sunk' driven driven' = Appends sunk sunk' text × (driven' ≡ driven)
IsMade (printed text e) sunk sunk' driven driven' =
    HasRun (text ++ output_of e.main e.rows.reactions) e sunk sunk' driven driven'
IsMade (executed e) sunk sunk' driven driven' = HasRun (output_of e.main e.rows.reactions) e sunk sunk' driven driven'
IsMade (summed e text) sunk sunk' driven driven' = HasRun text e sunk sunk' driven driven'

-- Done of any command: what was to be made of the files that are told is made.
abbrev pub DoneRuns : Type 0
DoneRuns = (command : Option Command) (held held' : Held) (sunk sunk' : Sunk) (driven driven' : Driven) (given : Given)
    → Replies command held held' sunk sunk' driven driven' done →
    outcome held.told (plan_of command) ≡ Some (Ok given) → IsMade given sunk sunk' driven driven'

-- Done of any words: what they write is said of bytes alone.
abbrev pub ValuesAreWritten : Type 0
ValuesAreWritten =
    (words : List Bytes) (held held' : Held) (sunk sunk' : Sunk) (driven driven' : Driven) →
    Replies (command_of words) held held' sunk sunk' driven driven' done →
    WritesValues held.told sunk.told sunk'.told words
