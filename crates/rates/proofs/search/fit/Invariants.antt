use Rattle.std.proofs.Common.{length}
use Rattle.rates.specs.Tables.{at}
use Rattle.rates.proofs.Exceeded.{left}
use Rattle.rates.proofs.Searches.{IsSearchOf, cap}
use Rattle.rates.proofs.search.fit.Given as goal

abbrev pub invariant-loop-lacking : goal.invariant-loop-lacking
invariant-loop-lacking l = IsSearchOf l.arcs l.long l.rate l.offsets.items l.given.items

-- each turn raises an offset, of which none is above the cap
abbrev pub decreases-loop-lacking : goal.decreases-loop-lacking
decreases-loop-lacking l = left (cap l.arcs l.long l.rate) (at l.offsets.items) (length l.arcs)
