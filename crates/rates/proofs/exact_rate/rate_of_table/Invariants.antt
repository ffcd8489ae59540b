use Rattle.rates.proofs.Rising.{IsSoFar, height}
use Rattle.rates.proofs.exact_rate.rate_of_table.Given as goal

abbrev pub invariant-loop-way : goal.invariant-loop-way
invariant-loop-way l = IsSoFar l.arcs l.long l.rate l.act l.way

-- each turn raises the rate, and no rate is above the greatest
abbrev pub decreases-loop-way : goal.decreases-loop-way
decreases-loop-way l = height l.rate
