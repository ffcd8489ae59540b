use Rattle.rates.proofs.laws.sustained_is_tested.Goals as goal
use Rattle.rates.proofs.Whole as whole

pub returns : goal.returns
returns c = whole.sustained_is_tested
