use Rattle.std.proofs.Common.{length, ◌-◌, ◌≤◌, take}
use Rattle.outside.specs.Sink.{Appends}
use Rattle.outside.proofs.write_whole.Given as goal

abbrev pub invariant-loop-at : goal.invariant-loop-at
invariant-loop-at g l = (l.at ≤ length l.bytes) × Appends (g.K.Sink.sunk l.fn.sink) (g.K.Sink.sunk l.sink) (take l.at l.bytes)

abbrev pub decreases-loop-at : goal.decreases-loop-at
decreases-loop-at g l = length l.bytes - l.at
