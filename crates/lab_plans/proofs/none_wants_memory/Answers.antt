use Rattle.lab_plans.proofs.Walk.{no_answer_wants, none_wants}
use Rattle.lab_plans.proofs.none_wants_memory.Goals as goal

pub returns-clause-plans : goal.returns-clause-plans
returns-clause-plans c = none_wants

pub returns-clause-answers : goal.returns-clause-answers
returns-clause-answers c = no_answer_wants
