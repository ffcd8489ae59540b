use Rattle.flat_laws.proofs.Acyclic.{stands-acyclic}
use Rattle.flat_laws.proofs.laws.stands_has_no_cycle.Goals as goal

pub returns : goal.returns
returns c = stands-acyclic
