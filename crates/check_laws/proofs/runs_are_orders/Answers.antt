use Rattle.check_laws.proofs.runs_are_orders.Goals as goal
use Rattle.check_laws.proofs.Whole as whole

pub returns : goal.returns
returns c = whole.runs_are_orders
