use Rattle.top_plans.proofs.Usage.{loads_keep}
use Rattle.top_plans.proofs.loads_keep.Goals as goal

pub returns : goal.returns
returns c = loads_keep
