use Rattle.lower_bound.proofs.Longer.{transfers_only_lengthen}
use Rattle.lower_bound.proofs.laws.transfers_only_lengthen.Goals as goal

pub returns : goal.returns
returns c = transfers_only_lengthen
