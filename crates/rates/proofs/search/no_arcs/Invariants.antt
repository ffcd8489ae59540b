use Rattle.std.proofs.Common.{◌≡◌, None, replicate}
use Rattle.rates.proofs.search.no_arcs.Given as goal

abbrev pub invariant-loop-act : goal.invariant-loop-act
invariant-loop-act l = l.given.items ≡ replicate l._act None
