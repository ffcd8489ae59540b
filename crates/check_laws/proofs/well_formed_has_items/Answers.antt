use Rattle.check_laws.proofs.well_formed_has_items.Goals as goal
use Rattle.check_laws.proofs.Whole as whole

pub returns : goal.returns
returns c = whole.well_formed_has_items
