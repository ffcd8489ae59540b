use Rattle.reference_graph.proofs.Enough.{enough}
use Rattle.reference_graph.proofs.laws.links_are_enough.Goals as goal

pub returns : goal.returns
returns c = λ links n a b. enough links b n a
