use Rattle.check_laws.proofs.cause_is_exact.Goals as goal
use Rattle.check_laws.proofs.Whole as whole

pub returns : goal.returns
returns c = whole.cause_is_exact
