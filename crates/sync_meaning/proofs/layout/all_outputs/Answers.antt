use Rattle.std.proofs.Common.{ap, ◌∙◌}
use Rattle.flat_graph.specs.declared.vertex.Vertex.{Vertex}
use Rattle.flat_graph.proofs.KindLens.{length-zeros}
use Rattle.sync_meaning.specs.Store.{lengths}
use Rattle.sync_meaning.proofs.Pushing.{pushed}
use Rattle.sync_meaning.proofs.layout.all_outputs.Goals as goal

pub loop-vertex-preserved : goal.loop-vertex-preserved
loop-vertex-preserved c =
    pushed lengths (λ (x : Vertex). x.outs) c.args.vertices.now c.loop-vertex.vertex-index c.vertex-item.result c.loop-vertex.table.items _ _ c.loop-vertex-test.true c.vertex-item.is
    (ap lengths c.in_ok-new.ensures ∙ length-zeros c.as_slice.result.now ∙ c.as_slice.ensures) c.in_ok-push.ensures.items c.loop-vertex.invariant
