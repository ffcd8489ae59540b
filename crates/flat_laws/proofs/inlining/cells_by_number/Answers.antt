use Rattle.flat_laws.proofs.Pairs.{same_cells-main}
use Rattle.flat_laws.proofs.inlining.cells_by_number.Goals as goal

pub returns : goal.returns
returns c = same_cells-main
