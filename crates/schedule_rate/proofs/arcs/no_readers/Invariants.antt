use Rattle.std.proofs.Common.{◌≡◌, [], replicate}
use Rattle.schedule_rate.proofs.arcs.no_readers.Given as goal

abbrev pub invariant-loop-act : goal.invariant-loop-act
invariant-loop-act l = l.readers.items ≡ replicate l._act []
