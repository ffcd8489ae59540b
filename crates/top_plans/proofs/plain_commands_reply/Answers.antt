use Rattle.top_plans.proofs.Usage.{plain_commands_reply}
use Rattle.top_plans.proofs.plain_commands_reply.Goals as goal

pub returns : goal.returns
returns c = plain_commands_reply c.accepted_run_true.ensures
