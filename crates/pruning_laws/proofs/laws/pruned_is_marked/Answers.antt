use Rattle.pruning_laws.proofs.Marked.{pruned-marked, flat-marked}
use Rattle.pruning_laws.proofs.laws.pruned_is_marked.Goals as goal

pub returns-clause-pruned : goal.returns-clause-pruned
returns-clause-pruned c = pruned-marked

pub returns-clause-flat : goal.returns-clause-flat
returns-clause-flat c = flat-marked
