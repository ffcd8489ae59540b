use Rattle.level_meaning.proofs.CyclesLemmas.{acyclic-from_reaching}
use Rattle.level_meaning.proofs.Reaching.{ranged-from_acyclic, reaching-from_acyclic}
use Rattle.level_meaning.proofs.laws.no_cycle_by_reaching.Goals as goal

pub returns : goal.returns
returns c cs = (λ h. (ranged-from_acyclic cs h, reaching-from_acyclic cs h), λ h. acyclic-from_reaching cs h.0 h.1)
