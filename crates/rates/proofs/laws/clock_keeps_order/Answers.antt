use Rattle.rates.proofs.laws.clock_keeps_order.Goals as goal
use Rattle.rates.proofs.Whole as whole

pub returns : goal.returns
returns c = whole.clock_keeps_order
