-- One time more.
use Rattle.check_places.proofs.ByReading.{pushed}
use Rattle.check_places.proofs.prologues.push_repeated.Goals as goal

pub loop-preserved : goal.loop-preserved
loop-preserved c = pushed c.args.pair c.loop.counter _ c.loop.pairs.items c.push.new.self.items c.in_ok-push.ensures.items c.loop.invariant
