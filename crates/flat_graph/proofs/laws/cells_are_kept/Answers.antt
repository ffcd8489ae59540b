use Rattle.flat_graph.proofs.Fired.{is_kept}
use Rattle.flat_graph.proofs.laws.cells_are_kept.Goals as goal

pub returns : goal.returns
returns c = is_kept
