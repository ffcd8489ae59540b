use Rattle.check_laws.proofs.no_cause_is_well_formed.Goals as goal
use Rattle.check_laws.proofs.Whole as whole

pub returns : goal.returns
returns c = whole.no_cause_is_well_formed
