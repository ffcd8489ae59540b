use Rattle.rates.proofs.laws.tables_are_tested.Goals as goal
use Rattle.rates.proofs.Whole as whole

pub returns : goal.returns
returns c = whole.tables_are_tested
