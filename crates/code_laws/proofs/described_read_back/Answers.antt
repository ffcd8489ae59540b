use Rattle.code_laws.proofs.described_read_back.Goals as goal
use Rattle.code_laws.proofs.Described as described

pub returns : goal.returns
returns c = described.described_read_back
