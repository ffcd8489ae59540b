use Rattle.lab_plans.proofs.Replying.{commands_reply}
use Rattle.lab_plans.proofs.commands_reply.Goals as goal

pub returns : goal.returns
returns c = commands_reply
