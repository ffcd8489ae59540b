use Rattle.std.proofs.Common.{◌≡◌, take, map}
use Rattle.sync_meaning.specs.Store.{first_kept}
use Rattle.sync_meaning.proofs.layout.first_cells.Given as goal

abbrev pub invariant-loop-vertex : goal.invariant-loop-vertex
invariant-loop-vertex l = map (λ c. c.items) l.cells.items ≡ map (λ x. first_kept x.kind) (take l.vertex-index l.vertices)
