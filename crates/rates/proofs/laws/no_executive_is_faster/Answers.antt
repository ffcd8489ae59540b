use Rattle.rates.proofs.laws.no_executive_is_faster.Goals as goal
use Rattle.rates.proofs.Whole as whole

pub returns : goal.returns
returns c = whole.no_executive_is_faster
