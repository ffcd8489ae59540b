use Rattle.sequence_build_laws.proofs.built_are_well_formed.Goals as goal
use Rattle.sequence_build_laws.proofs.Whole as whole

pub returns : goal.returns
returns c = whole.built_are_well_formed
