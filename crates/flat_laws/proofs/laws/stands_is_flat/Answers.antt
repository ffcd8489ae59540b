use Rattle.flat_laws.proofs.Valid.{stands-flat}
use Rattle.flat_laws.proofs.laws.stands_is_flat.Goals as goal

pub returns : goal.returns
returns c = stands-flat
