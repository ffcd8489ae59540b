use Rattle.graph_drawing.proofs.Exact.{draws_exactly}
use Rattle.graph_drawing.proofs.laws.drawings_show_exactly.Goals as goal

pub returns : goal.returns
returns c = draws_exactly
