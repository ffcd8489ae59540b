use Rattle.accepted_laws.proofs.Stands.{flat_takes_the_same}
use Rattle.accepted_laws.proofs.flat_takes_the_same.Goals as goal

pub returns : goal.returns
returns c = flat_takes_the_same
