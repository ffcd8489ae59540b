use Rattle.std.proofs.Common.{◌≡◌, ◌++◌, take}
use Rattle.executive_program.specs.Graph.{lens_of}
use Rattle.operation_desks.proofs.opening.push_lens.Given as goal

abbrev pub invariant-loop-source : goal.invariant-loop-source
invariant-loop-source l = l.lens.items ≡ l.initial.lens.items ++ lens_of l.flat.vertices (take l.source-index l.sources)
