use Rattle.top_plans.proofs.Usage.{done_runs}
use Rattle.top_plans.proofs.done_runs.Goals as goal

pub returns : goal.returns
returns c = done_runs
