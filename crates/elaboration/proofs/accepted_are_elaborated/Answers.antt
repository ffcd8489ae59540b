use Rattle.elaboration.proofs.Whole.{accepted_elaborated}
use Rattle.elaboration.proofs.accepted_are_elaborated.Goals as goal

pub returns : goal.returns
returns c = accepted_elaborated
