use Rattle.sync_meaning.specs.Store.{lengths, lens_read}
use Rattle.sync_meaning.proofs.Pushing.{pushed}
use Rattle.sync_meaning.proofs.layout.all_reads.Goals as goal

pub loop-vertex-preserved : goal.loop-vertex-preserved
loop-vertex-preserved c =
    pushed lengths (lens_read c.args.vertices.now) c.args.vertices.now c.loop-vertex.vertex-index c.vertex-item.result
    c.loop-vertex.reads.items _ _ c.loop-vertex-test.true c.vertex-item.is c.in_ok-places_read.ensures c.in_ok-push.ensures.items c.loop-vertex.invariant
