use Rattle.check_laws.proofs.run_is_order.Goals as goal
use Rattle.check_laws.proofs.Whole as whole

pub returns : goal.returns
returns c = whole.run_is_order
