use Rattle.reference_graph.specs.Settled.{depth_by}
use Rattle.reference_graph.proofs.Pushed.{pushed}
use Rattle.reference_graph.proofs.rounds.one_deeper.Goals as goal

pub loop-a-preserved : goal.loop-a-preserved
loop-a-preserved c =
    pushed (depth_by c.args.links.now c.args.depths.now) c.loop-a.a c.loop-a.deeper.items c.push.new.self.items _ c.loop-a.invariant c.depth_by.ensures c.in_ok-push.ensures.items
