use Rattle.std.proofs.Common.{◌≡◌, drop, max}
use Rattle.self_timed.specs.Period.{row_end}
use Rattle.self_timed.proofs.period.row_end.Given as goal

-- the greatest end so far, with those of the spans that are left, is that of all
abbrev pub invariant-loop-span : goal.invariant-loop-span
invariant-loop-span l = max l.latest (row_end (drop l.span-index l.row)) ≡ row_end l.row
