use Rattle.algo_laws.proofs.Growth.{accepted_few}
use Rattle.algo_laws.proofs.reading.accepted_are_few.Goals as goal

pub returns : goal.returns
returns c = accepted_few
