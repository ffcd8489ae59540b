use Rattle.std.proofs.Common.{◌≡◌, ◌++◌, drop, map}
use Rattle.durations.specs.Table.{get_half_of}
use Rattle.durations.proofs.halves.halves.Given as goal

abbrev pub invariant-loop-vertex : goal.invariant-loop-vertex
invariant-loop-vertex l = l.halves.items ++ map get_half_of (drop l.vertex-index l.vertices) ≡ map get_half_of l.vertices
