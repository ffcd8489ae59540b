use Rattle.std.proofs.Common.{◌≡◌, ◌++◌, drop}
use Rattle.executive_program.specs.FlatLaws.{sensor_lens}
use Rattle.operation_desks.proofs.opening.sensor_lens.Given as goal

abbrev pub invariant-loop-x : goal.invariant-loop-x
invariant-loop-x l = l.lens.items ++ sensor_lens (drop l.x-index l.flat.vertices) ≡ sensor_lens l.flat.vertices
