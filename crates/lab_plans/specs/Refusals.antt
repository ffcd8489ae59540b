-- What no plan refuses for: want of memory is told by what is carried out, and never by what texts and words say.
use Rattle.std.specs.Prelude.{◌≡◌, Option, Err}
use Rattle.self_timed.specs.declared.Schedule.{Schedule}
use Rattle.top_plans.specs.Plan.{RefusesOnly}
use Rattle.top_plans.specs.Status.{Refusal, wants_memory}
use Rattle.lab_words.specs.Command.{Command}
use Rattle.lab_plans.specs.Asked.{Asked}
use Rattle.lab_plans.specs.Answers.{answer}
use Rattle.lab_plans.specs.Plans.{plan_of}

-- whatever is read
abbrev pub NoPlanWantsMemory : Type 0
NoPlanWantsMemory = (command : Option Command) → RefusesOnly (λ refusal. ¬ (refusal ≡ wants_memory)) (plan_of command)

-- and whatever is found
abbrev pub NoAnswerWantsMemory : Type 0
NoAnswerWantsMemory =
    (asked : Asked) (s : Schedule) (refusal : Refusal) → answer asked s ≡ Err refusal → ¬ (refusal ≡ wants_memory)
