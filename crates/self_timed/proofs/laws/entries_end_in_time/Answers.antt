use Rattle.self_timed.proofs.laws.entries_end_in_time.Goals as goal
use Rattle.self_timed.proofs.Whole as whole

pub returns : goal.returns
returns c = whole.entries_end_in_time
