use Rattle.top_plans.proofs.Usage.{commands_reply}
use Rattle.top_plans.proofs.commands_reply.Goals as goal

pub returns : goal.returns
returns c = commands_reply c.accepted_run_true.ensures
