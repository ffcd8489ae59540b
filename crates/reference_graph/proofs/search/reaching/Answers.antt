use Rattle.reference_graph.specs.Links.{reaches_itself}
use Rattle.reference_graph.proofs.Pushed.{pushed}
use Rattle.reference_graph.proofs.search.reaching.Goals as goal

pub loop-a-preserved : goal.loop-a-preserved
loop-a-preserved c =
    pushed (reaches_itself c.args.links.now) c.loop-a.a c.loop-a.answers.items c.push.new.self.items _ c.loop-a.invariant c.in_ok-is_reaching.ensures c.in_ok-push.ensures.items
