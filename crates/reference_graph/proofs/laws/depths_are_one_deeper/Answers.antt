use Rattle.reference_graph.proofs.Enough.{one_deeper}
use Rattle.reference_graph.proofs.laws.depths_are_one_deeper.Goals as goal

pub returns : goal.returns
returns c = one_deeper
