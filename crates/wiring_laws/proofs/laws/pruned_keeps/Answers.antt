use Rattle.wiring_laws.proofs.Meaning.{pruned-keeps}
use Rattle.wiring_laws.proofs.Prunable.{counted-pruned}
use Rattle.wiring_laws.proofs.laws.pruned_keeps.Goals as goal

pub returns-clause-kept : goal.returns-clause-kept
returns-clause-kept c = pruned-keeps

pub returns-clause-count : goal.returns-clause-count
returns-clause-count c = counted-pruned
