-- What no plan refuses for: want of memory is told by what is carried out, and never by what texts and words say.
use Rattle.std.specs.Prelude.{◌≡◌, Option, Some, Err}
use Rattle.syn_base.specs.Bytes.{Bytes}
use Rattle.command_status.specs.Plan.{outcome, RefusesOnly}
use Rattle.command_status.specs.Status.{Refusal, wants_memory}
use Rattle.command_words.specs.Command.{Command}
use Rattle.top_plans.specs.Plans.{plan_of}

-- whatever is read
abbrev pub NoPlanWantsMemory : Type 0
NoPlanWantsMemory = (command : Option Command) → RefusesOnly (λ refusal. ¬ (refusal ≡ wants_memory)) (plan_of command)

-- whatever the files are told to hold
abbrev pub NoOutcomeWantsMemory : Type 0
NoOutcomeWantsMemory =
    (command : Option Command) (told : Bytes → Option Bytes) (refusal : Refusal) →
    outcome told (plan_of command) ≡ Some (Err refusal) → ¬ (refusal ≡ wants_memory)
