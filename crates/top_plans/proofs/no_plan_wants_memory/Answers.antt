use Rattle.top_plans.proofs.Refusals.{none_wants, no_outcome_wants}
use Rattle.top_plans.proofs.no_plan_wants_memory.Goals as goal

pub returns-clause-plans : goal.returns-clause-plans
returns-clause-plans c = none_wants

pub returns-clause-outcomes : goal.returns-clause-outcomes
returns-clause-outcomes c = no_outcome_wants
