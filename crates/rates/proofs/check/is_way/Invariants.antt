use Rattle.std.proofs.Common.{◌≡◌, drop}
use Rattle.rates.specs.Tables.{is_way_in}
use Rattle.rates.proofs.check.is_way.Given as goal

-- whether what is left is a way is whether all is
abbrev pub invariant-loop-place : goal.invariant-loop-place
invariant-loop-place l = is_way_in l.arcs l.act (drop l.place l.way) ≡ is_way_in l.arcs l.act l.way
