use Rattle.lower_bound.proofs.Back.{chain_lasts_longest}
use Rattle.lower_bound.proofs.laws.chain_lasts_longest.Goals as goal

pub returns : goal.returns
returns c = chain_lasts_longest
