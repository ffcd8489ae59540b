use Rattle.archi_graph.proofs.Flags.{after_one_hop}
use Rattle.archi_graph.proofs.joined.reached.Goals as goal

pub loop-hops-preserved : goal.loop-hops-preserved
loop-hops-preserved c =
    after_one_hop c.args.media.now c.loop-hops.reached c.one_hop_further-reached.result c.loop-hops._hops c.requires c.loop-hops.invariant c.one_hop_further-reached.ensures
