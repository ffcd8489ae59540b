use Rattle.sync_meaning.proofs.Rounds.{AreTried}
use Rattle.sync_meaning.proofs.order.one_round.Given as goal

abbrev pub invariant-loop-v : goal.invariant-loop-v
invariant-loop-v l = AreTried l.vertices l.v l.fn.begun l.begun
