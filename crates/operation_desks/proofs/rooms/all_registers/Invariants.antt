use Rattle.std.proofs.Common.{◌≡◌, take}
use Rattle.operation_desks.specs.Rooms.{all_registers}
use Rattle.operation_desks.proofs.rooms.all_registers.Given as goal

abbrev pub invariant-loop-one : goal.invariant-loop-one
invariant-loop-one l = l.all.items ≡ all_registers l.flat (take l.one-index l.steps)
