use Rattle.accepted_laws.proofs.Told.{accepted_do_as_told}
use Rattle.accepted_laws.proofs.accepted_do_as_told.Goals as goal

pub returns : goal.returns
returns c = accepted_do_as_told
