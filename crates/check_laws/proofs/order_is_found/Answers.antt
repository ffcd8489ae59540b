use Rattle.check_laws.proofs.order_is_found.Goals as goal
use Rattle.check_laws.proofs.Whole as whole

pub returns : goal.returns
returns c = whole.order_is_found
