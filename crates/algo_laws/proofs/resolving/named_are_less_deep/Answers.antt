use Rattle.algo_laws.proofs.Accepted.{less_deep}
use Rattle.algo_laws.proofs.resolving.named_are_less_deep.Goals as goal

pub returns : goal.returns
returns c = less_deep
