use Rattle.algo_laws.proofs.Trees.{are_counted}
use Rattle.algo_laws.proofs.resolving.operations_are_counted.Goals as goal

pub returns : goal.returns
returns c = are_counted
