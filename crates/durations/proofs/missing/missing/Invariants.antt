use Rattle.std.proofs.Common.{◌≡◌, drop}
use Rattle.durations.specs.Table.{missing}
use Rattle.durations.proofs.missing.missing.Given as goal

abbrev pub invariant-loop-vertex : goal.invariant-loop-vertex
invariant-loop-vertex l = missing l.given.lines (drop l.vertex-index l.vertices) ≡ missing l.given.lines l.vertices
