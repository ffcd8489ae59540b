use Rattle.std.proofs.Common.{◌≡◌, ◌++◌, drop}
use Rattle.operation_desks.proofs.opening.actuator_lens.Given as goal
use Rattle.executive_program.specs.FlatLaws.{actuator_lens}

abbrev pub invariant-loop-x : goal.invariant-loop-x
invariant-loop-x l = l.lens.items ++ actuator_lens l.flat (drop l.x-index l.flat.vertices) ≡ actuator_lens l.flat l.flat.vertices
