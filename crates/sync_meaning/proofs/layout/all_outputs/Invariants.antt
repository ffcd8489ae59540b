use Rattle.std.proofs.Common.{◌≡◌, take, map}
use Rattle.sync_meaning.specs.Store.{lengths}
use Rattle.sync_meaning.proofs.layout.all_outputs.Given as goal

abbrev pub invariant-loop-vertex : goal.invariant-loop-vertex
invariant-loop-vertex l = map lengths l.table.items ≡ map (λ x. x.outs) (take l.vertex-index l.vertices)
