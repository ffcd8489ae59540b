use Rattle.std.proofs.Common.{◌≡◌, ◌-◌, length}
use Rattle.executive_program.specs.Places.{carried, carried_within}
use Rattle.order_check.proofs.carrying.carried_by.Given as goal

-- what the buffer carries that was come to
abbrev pub invariant-loop-hops : goal.invariant-loop-hops
invariant-loop-hops l = carried_within l.program (length l.program.buffers - l._hops) l.at ≡ carried l.program l.buffer
