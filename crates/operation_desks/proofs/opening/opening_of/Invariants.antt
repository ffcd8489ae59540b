use Rattle.std.proofs.Common.{◌≡◌, ◌++◌, drop}
use Rattle.executive_program.specs.Meaning.{initial_cells}
use Rattle.operation_desks.proofs.opening.opening_of.Given as goal

abbrev pub invariant-loop-x : goal.invariant-loop-x
invariant-loop-x l = l.all.items ++ initial_cells (drop l.x-index l.flat.vertices) ≡ initial_cells l.flat.vertices
