use Rattle.flat_laws.proofs.Stands.{stands-keeps}
use Rattle.flat_laws.proofs.laws.stands_keeps.Goals as goal

pub returns : goal.returns
returns c = stands-keeps
