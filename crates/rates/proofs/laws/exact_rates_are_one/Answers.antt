use Rattle.rates.proofs.laws.exact_rates_are_one.Goals as goal
use Rattle.rates.proofs.Whole as whole

pub returns : goal.returns
returns c = whole.exact_rates_are_one
