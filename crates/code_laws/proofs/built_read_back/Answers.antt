use Rattle.code_laws.proofs.built_read_back.Goals as goal
use Rattle.code_laws.proofs.ReadBack as back

pub returns : goal.returns
returns c = back.built_read_back
