-- One more length.
use Rattle.operation_desks.proofs.Appending.{repeated}
use Rattle.operation_desks.proofs.opening.push_empty.Goals as goal

pub loop-preserved : goal.loop-preserved
loop-preserved c = repeated 0 c.loop.counter c.args.lens.now.items c.loop.lens.items c.push.new.self.items c.loop.invariant c.in_ok-push.ensures.items
