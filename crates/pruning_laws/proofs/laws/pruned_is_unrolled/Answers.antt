use Rattle.pruning_laws.proofs.Flattened.{pruned-unroll}
use Rattle.pruning_laws.proofs.laws.pruned_is_unrolled.Goals as goal

pub returns : goal.returns
returns c = pruned-unroll
