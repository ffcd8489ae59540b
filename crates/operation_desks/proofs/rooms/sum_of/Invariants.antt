use Rattle.std.proofs.Common.{◌≡◌, ◌≤◌, ◌*◌, ◌^◌, sum, take}
use Rattle.operation_desks.proofs.rooms.sum_of.Given as goal

abbrev pub invariant-loop-len : goal.invariant-loop-len
invariant-loop-len l = (l.total ≡ sum (take l.len-index l.lens)) × (l.total ≤ l.len-index * 2 ^ 32)
