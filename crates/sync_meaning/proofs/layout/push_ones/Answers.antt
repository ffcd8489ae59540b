use Rattle.sync_meaning.proofs.Pushing.{repeated}
use Rattle.sync_meaning.proofs.layout.push_ones.Goals as goal

pub loop-guard-preserved : goal.loop-guard-preserved
loop-guard-preserved c = repeated 1 c.loop-guard._guard c.args.lens.now.items c.loop-guard.lens.items c.push.new.self.items c.loop-guard.invariant c.in_ok-push.ensures.items
