use Rattle.pruning_laws.proofs.Flattened.{pruned-guard}
use Rattle.pruning_laws.proofs.laws.pruned_is_guarded.Goals as goal

pub returns : goal.returns
returns c = pruned-guard
