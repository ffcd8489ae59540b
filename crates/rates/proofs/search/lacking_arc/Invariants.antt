use Rattle.std.proofs.Common.{◌≡◌, drop}
use Rattle.std.specs.List.{list_all}
use Rattle.rates.specs.Rates.{has_room}
use Rattle.rates.specs.Tables.{at}
use Rattle.rates.proofs.search.lacking_arc.Given as goal

-- whether there is room after all of what is left is whether there is after all
abbrev pub invariant-loop-arc : goal.invariant-loop-arc
invariant-loop-arc l =
    list_all (has_room (at l.long) l.rate.ticks l.rate.reactions (at l.offsets) l.act) (drop l.arc-index l.row)
    ≡ list_all (has_room (at l.long) l.rate.ticks l.rate.reactions (at l.offsets) l.act) l.row
