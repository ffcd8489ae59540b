use Rattle.self_timed.proofs.laws.lines_are_in_order.Goals as goal
use Rattle.self_timed.proofs.Whole as whole

pub returns : goal.returns
returns c = whole.lines_are_in_order
