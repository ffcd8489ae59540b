use Rattle.rates.proofs.laws.some_rate_is_exact.Goals as goal
use Rattle.rates.proofs.Whole as whole

pub returns : goal.returns
returns c = whole.some_rate_is_exact
