use Rattle.std.proofs.Common.{◌≡◌, drop, max}
use Rattle.lower_bound.proofs.bound.greatest.Given as goal
use Rattle.syn_base.specs.Numbers.{greatest}

-- the greatest so far, with the dates that are left, is that of all
abbrev pub invariant-loop-date : goal.invariant-loop-date
invariant-loop-date l = max l.greatest (greatest (drop l.date-index l.dates)) ≡ greatest l.dates
