use Rattle.code_laws.proofs.well_formed_read_back.Goals as goal
use Rattle.code_laws.proofs.ReadBack as back

pub returns : goal.returns
returns c = back.well_formed_read_back
