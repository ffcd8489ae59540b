use Rattle.std.proofs.Common.{◌≡◌, max, drop}
use Rattle.operation_desks.specs.Rooms.{highest}
use Rattle.operation_desks.proofs.rooms.highest.Given as goal

abbrev pub invariant-loop-step : goal.invariant-loop-step
invariant-loop-step l = max l.most (highest l.flat (drop l.step-index l.list)) ≡ highest l.flat l.list
