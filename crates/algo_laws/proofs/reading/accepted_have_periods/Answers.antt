use Rattle.algo_laws.proofs.Marks.{accepted_marked}
use Rattle.algo_laws.proofs.reading.accepted_have_periods.Goals as goal

pub returns : goal.returns
returns c = accepted_marked
