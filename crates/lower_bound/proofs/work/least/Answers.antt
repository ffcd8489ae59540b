use Rattle.lower_bound.proofs.Least.{least_is}
use Rattle.lower_bound.proofs.work.least.Goals as goal

pub returns-clause-same : goal.returns-clause-same
returns-clause-same c = least_is c.args.durations.now c.operations-operations.ensures.valid c.args.op c.least.result c.requires c.least.ensures.entry
