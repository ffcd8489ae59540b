-- No plan refuses for want of memory.
use Rattle.std.proofs.Common.{◌≡◌, Some, None}
use Rattle.command_status.specs.Plan.{RefusesOnly}
use Rattle.command_status.proofs.Refusals.{refused_so}
use Rattle.command_status.specs.Status.{wants_memory}
use Rattle.top_plans.specs.Plans.{plan_of}
use Rattle.top_plans.specs.Refusals.{NoPlanWantsMemory, NoOutcomeWantsMemory}
use Rattle.top_plans.proofs.Commands.{Any}
use Rattle.top_plans.proofs.Walk.{walk}

pub none_wants : NoPlanWantsMemory
none_wants None = λ q. cc
none_wants (Some command) =
    walk Any (RefusesOnly (λ refusal. ¬ (refusal ≡ wants_memory))) (λ r told. told.no_want) command (λ file name next is h. ((λ q. cc), λ bytes. h bytes tt)) (λ given leaf. tt)

pub no_outcome_wants : NoOutcomeWantsMemory
no_outcome_wants command told refusal is = refused_so (λ r. ¬ (r ≡ wants_memory)) told (plan_of command) (none_wants command) refusal is
