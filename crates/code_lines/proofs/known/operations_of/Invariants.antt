use Rattle.std.proofs.Common.{◌≡◌, map, take}
use Rattle.code_lines.proofs.known.operations_of.Given as goal

abbrev pub invariant-loop-vertex : goal.invariant-loop-vertex
invariant-loop-vertex l = l.names ≡ map (λ x. x.name) (take l.vertex-index l.vertices)
