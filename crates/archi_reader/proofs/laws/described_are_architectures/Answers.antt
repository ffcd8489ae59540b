use Rattle.archi_reader.proofs.Accepted.{described_are}
use Rattle.archi_reader.proofs.laws.described_are_architectures.Goals as goal

pub returns : goal.returns
returns c = described_are
