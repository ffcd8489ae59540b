use Rattle.self_timed.proofs.laws.dates_are_one.Goals as goal
use Rattle.self_timed.proofs.Whole as whole

pub returns : goal.returns
returns c = whole.dates_are_one
