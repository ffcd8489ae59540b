use Rattle.std.proofs.Common.{◌≡◌, drop}
use Rattle.flat_graph.specs.Valid.{are_named_apart}
use Rattle.flat_graph.proofs.valid.are_named_apart.Given as goal

-- the operations that are left decide
abbrev pub invariant-loop-i : goal.invariant-loop-i
invariant-loop-i l = are_named_apart (drop l.i l.vertices) ≡ are_named_apart l.vertices
