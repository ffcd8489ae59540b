use Rattle.std.proofs.Common.{◌≡◌, drop}
use Rattle.rates.specs.Tables.{at, rows_fit_from}
use Rattle.rates.proofs.check.is_sustained.Given as goal

-- whether what is left fits is whether all fits
abbrev pub invariant-loop-act : goal.invariant-loop-act
invariant-loop-act l = rows_fit_from (at l.long) l.rate.ticks l.rate.reactions (at l.offsets) l.act (drop l.act l.rows)
    ≡ rows_fit_from (at l.long) l.rate.ticks l.rate.reactions (at l.offsets) 0 l.rows
