use Rattle.accepted_laws.proofs.Stands.{trees_have_flat}
use Rattle.accepted_laws.proofs.trees_have_flat.Goals as goal

pub returns : goal.returns
returns c = trees_have_flat
