use Rattle.rates.proofs.laws.critical_cycles_are_exact.Goals as goal
use Rattle.rates.proofs.Whole as whole

pub returns : goal.returns
returns c = whole.critical_cycles_are_exact
