use Rattle.accepted_laws.proofs.Definitions.{accepted_have_flat}
use Rattle.accepted_laws.proofs.accepted_have_flat.Goals as goal

pub returns : goal.returns
returns c = accepted_have_flat
