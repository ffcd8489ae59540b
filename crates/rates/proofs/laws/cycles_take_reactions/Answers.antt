use Rattle.rates.proofs.laws.cycles_take_reactions.Goals as goal
use Rattle.rates.proofs.Whole as whole

pub returns : goal.returns
returns c = whole.cycles_take_reactions
