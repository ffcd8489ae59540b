use Rattle.macro_check.specs.Awaiting.{IsGoing, to_do}
use Rattle.macro_check.proofs.running.run_through.Given as goal

abbrev pub invariant-loop-sequence : goal.invariant-loop-sequence
invariant-loop-sequence l = IsGoing l.program l.order.items l.done.items l.looks.items

abbrev pub decreases-loop-sequence : goal.decreases-loop-sequence
decreases-loop-sequence l = to_do l.program l.order.items l.looks.items
