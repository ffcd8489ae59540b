use Rattle.top_plans.proofs.Values.{values_are_written}
use Rattle.top_plans.proofs.values_are_written.Goals as goal

pub returns : goal.returns
returns c = values_are_written
