use Rattle.std.proofs.Common.{◌≡◌, ◌+◌, ◌*◌, drop}
use Rattle.std.specs.Prelude.{nat_le}
use Rattle.std.specs.List.{list_all}
use Rattle.rates.specs.Tables.{at}
use Rattle.rates.proofs.check.all_have_room.Given as goal

-- whether all of what is left has room is whether all has
abbrev pub invariant-loop-arc : goal.invariant-loop-arc
invariant-loop-arc l =
    list_all (λ a. nat_le (at l.offsets a.act + l.needed) (l.offset + a.lag * l.ticks)) (drop l.arc-index l.row)
    ≡ list_all (λ a. nat_le (at l.offsets a.act + l.needed) (l.offset + a.lag * l.ticks)) l.row
