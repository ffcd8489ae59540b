use Rattle.self_timed.proofs.laws.no_later_than_stated.Goals as goal
use Rattle.self_timed.proofs.Whole as whole

pub returns : goal.returns
returns c = whole.no_later_than_stated
