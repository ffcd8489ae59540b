use Rattle.rates.proofs.laws.cycle_is_tested.Goals as goal
use Rattle.rates.proofs.Whole as whole

pub returns : goal.returns
returns c = whole.cycle_is_tested
