use Rattle.std.specs.Prelude.{◌≡◌, ◌++◌, drop}
use Rattle.word_table.specs.Owners.{owners}
use Rattle.word_table.proofs.owners.cell_owners.Given as goal

abbrev pub invariant-loop-v : goal.invariant-loop-v
invariant-loop-v l = l.cells.items ++ owners (drop l.v l.callers) (drop l.v l.vertices) ≡ owners l.callers l.vertices
