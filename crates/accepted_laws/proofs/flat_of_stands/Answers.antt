use Rattle.accepted_laws.proofs.Stands.{flat_of_stands}
use Rattle.accepted_laws.proofs.flat_of_stands.Goals as goal

pub returns : goal.returns
returns c = flat_of_stands
