use Rattle.rates.proofs.laws.no_rate_is_below_a_cycle.Goals as goal
use Rattle.rates.proofs.Whole as whole

pub returns : goal.returns
returns c = whole.no_rate_is_below_a_cycle
