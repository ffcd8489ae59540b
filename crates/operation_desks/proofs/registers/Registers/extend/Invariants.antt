use Rattle.std.proofs.Common.{◌≡◌, ◌++◌, take}
use Rattle.operation_desks.proofs.registers.Registers.extend.Given as goal

abbrev pub invariant-loop-value : goal.invariant-loop-value
invariant-loop-value l = l.self ≡ record l.initial.self { values = l.initial.self.values ++ take l.value-index l.vector }
