use Rattle.algo_laws.proofs.Lines.{accepted_well}
use Rattle.algo_laws.proofs.reading.accepted_are_well_read.Goals as goal

pub returns : goal.returns
returns c = accepted_well
