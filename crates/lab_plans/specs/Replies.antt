-- What the top call answers.
use Rattle.std.specs.Prelude.{◌≡◌, ◌⊎◌, Option, Some, None, Result, Ok, IsOkAnd}
use Rattle.syn_base.specs.Bytes.{Bytes}
use Rattle.self_timed.specs.declared.Schedule.{Schedule}
use Rattle.top_plans.specs.Answer.{Answer, for_some, text_answer}
use Rattle.top_plans.specs.Shelf.{Held}
use Rattle.top_plans.specs.Sink.{Sunk, Appends, AppendsPrefix}
use Rattle.top_plans.specs.Plan.{outcome}
use Rattle.top_plans.specs.Ending.{Ending, done, refused, unwritten}
use Rattle.top_plans.specs.PlanAnswers.{Answers}
use Rattle.top_plans.specs.Run.{Ran}
use Rattle.top_plans.specs.Status.{Refusal, usage}
use Rattle.lab_words.specs.Command.{Command}
use Rattle.lab_plans.specs.Names.{names_of}
use Rattle.lab_plans.specs.Asked.{Asked, IsFoundFor}
use Rattle.lab_plans.specs.Answers.{answer}
use Rattle.lab_plans.specs.Plans.{Asks, plan_of}

-- no command runs a job, and nothing is driven
abbrev pub leaves : ⊥ → Unit {0} → Unit {0}
leaves job driven = driven

-- what is answered of the schedule that was found, which is written by one call
abbrev pub answered : Asked → Schedule → Answer Refusal ⊥
answered asked s = text_answer (answer asked s)

-- some schedule may be found for what is asked for, and what is answered of it has this
abbrev pub found : Asked → (Answer Refusal ⊥ → Type 0) → Type 0
found = for_some IsFoundFor answered

-- the plan was carried out
abbrev pub CarriedOut : Asks → Held → Held → Sunk → Sunk → Ending Refusal → Type 0
CarriedOut plan held held' sunk sunk' ending = Ran leaves found plan held held' sunk sunk' tt tt ending

-- The ending is that of the plan which the words ask for, it is Usage only for words that are no command, and all is
-- written by one call.
pub record Replies (command : Option Command) (held held' : Held) (sunk sunk' : Sunk)
    (ending : Ending Refusal) : Type 0 where
  pub answers : Answers leaves found (plan_of command) (names_of command) held held' sunk sunk' tt tt ending
  pub usage : ending ≡ refused usage → command ≡ None
  pub once : (ending ≡ done) ⊎ (ending ≡ unwritten) ⊎ (sunk' ≡ sunk)

-- What was carried out of the plan of the words replies.
abbrev pub CommandsReply : Type 0
CommandsReply =
    (command : Option Command) (held held' : Held) (sunk sunk' : Sunk) (ending : Ending Refusal) →
    CarriedOut (plan_of command) held held' sunk sunk' ending → Replies command held held' sunk sunk' ending

-- for some schedule that may be found, what is answered of it is a text that has this
abbrev pub FindsText : (Bytes → Type 0) → Asked → Type 0
FindsText P asked = (s : Schedule) × IsFoundFor asked s × IsOkAnd (answer asked s) P

-- Done: the text of a schedule that may be found was appended. A fault of the output: a prefix of one.
abbrev pub TextsAreWritten : Type 0
TextsAreWritten =
    (command : Option Command) (held held' : Held) (sunk sunk' : Sunk) (ending : Ending Refusal) →
    Replies command held held' sunk sunk' ending → (asked : Asked) →
    outcome held.told (plan_of command) ≡ Some (Ok asked) →
    (ending ≡ done → FindsText (λ text. Appends sunk sunk' text) asked) ×
    (ending ≡ unwritten → FindsText (λ text. AppendsPrefix sunk sunk' text) asked)

-- nothing is read for words that are no command
abbrev pub LeavesUnread : Option Command → Held → Held → Type 0
LeavesUnread None held held' = held' ≡ held
LeavesUnread (Some command) held held' = Unit {0}
