use Rattle.self_timed.proofs.laws.entries_are_acts.Goals as goal
use Rattle.self_timed.proofs.Whole as whole

pub returns : goal.returns
returns c = whole.entries_are_acts
