use Rattle.sync_meaning.specs.Begun.{IsBegun}
use Rattle.sync_meaning.proofs.order.try_proposed.Given as goal

abbrev pub invariant-loop-v : goal.invariant-loop-v
invariant-loop-v l = IsBegun l.vertices l.begun
