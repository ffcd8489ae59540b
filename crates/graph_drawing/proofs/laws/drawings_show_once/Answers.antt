use Rattle.graph_drawing.proofs.Exact.{draws_once}
use Rattle.graph_drawing.proofs.laws.drawings_show_once.Goals as goal

pub returns : goal.returns
returns c = draws_once
