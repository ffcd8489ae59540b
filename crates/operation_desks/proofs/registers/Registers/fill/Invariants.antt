use Rattle.std.proofs.Common.{◌≡◌, take}
use Rattle.executive_program.specs.Level.{all_joined}
use Rattle.operation_desks.proofs.registers.Registers.fill.Given as goal

abbrev pub invariant-loop-port : goal.invariant-loop-port
invariant-loop-port l = l.self ≡ record l.initial.self { values = all_joined (take l.port l.vectors) }
