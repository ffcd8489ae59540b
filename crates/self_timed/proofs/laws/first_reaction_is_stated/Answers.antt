use Rattle.self_timed.proofs.laws.first_reaction_is_stated.Goals as goal
use Rattle.self_timed.proofs.Whole as whole

pub returns : goal.returns
returns c = whole.first_reaction_is_stated
