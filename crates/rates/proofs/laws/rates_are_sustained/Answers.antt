use Rattle.rates.proofs.laws.rates_are_sustained.Goals as goal
use Rattle.rates.proofs.Whole as whole

pub returns : goal.returns
returns c = whole.rates_are_sustained
