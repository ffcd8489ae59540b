use Rattle.rates.proofs.laws.every_rate_is_sustained_or_exceeded.Goals as goal
use Rattle.rates.proofs.Whole as whole

pub returns : goal.returns
returns c = whole.every_rate_is_sustained_or_exceeded
