use Rattle.rates.proofs.laws.sustains_is_of_needs.Goals as goal
use Rattle.rates.proofs.Whole as whole

pub returns : goal.returns
returns c = whole.sustains_is_of_needs
