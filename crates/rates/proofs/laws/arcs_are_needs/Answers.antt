use Rattle.rates.proofs.laws.arcs_are_needs.Goals as goal
use Rattle.rates.proofs.Whole as whole

pub returns : goal.returns
returns c = whole.arcs_are_needs
