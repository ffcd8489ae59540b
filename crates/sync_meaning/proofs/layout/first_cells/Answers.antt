use Rattle.std.proofs.Common.{ℤ, Vec, Global}
use Rattle.flat_graph.specs.declared.vertex.Vertex.{Vertex}
use Rattle.sync_meaning.specs.Store.{first_kept}
use Rattle.sync_meaning.proofs.Pushing.{pushed}
use Rattle.sync_meaning.proofs.layout.first_cells.Goals as goal

pub loop-vertex-preserved : goal.loop-vertex-preserved
loop-vertex-preserved c =
    pushed (λ (v : Vec ℤ Global). v.items)
    (λ (x : Vertex). first_kept x.kind) c.args.vertices.now c.loop-vertex.vertex-index c.vertex-item.result c.loop-vertex.cells.items _
    _ c.loop-vertex-test.true c.vertex-item.is
    c.in_ok-first_kept.ensures c.in_ok-push.ensures.items c.loop-vertex.invariant
