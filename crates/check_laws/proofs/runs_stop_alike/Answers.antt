use Rattle.check_laws.proofs.runs_stop_alike.Goals as goal
use Rattle.check_laws.proofs.Whole as whole

pub returns : goal.returns
returns c = whole.runs_stop_alike
