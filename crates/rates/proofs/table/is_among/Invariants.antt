use Rattle.std.proofs.Common.{◌≡◌, drop}
use Rattle.std.specs.List.{list_any}
use Rattle.rates.specs.Rates.{same_arc}
use Rattle.rates.proofs.table.is_among.Given as goal

-- whether one of what is left is the arc is whether one of all is
abbrev pub invariant-loop-other : goal.invariant-loop-other
invariant-loop-other l = list_any (same_arc l.arc) (drop l.other-index l.row) ≡ list_any (same_arc l.arc) l.row
