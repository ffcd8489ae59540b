use Rattle.std.proofs.Common.{◌≡◌, ◌+◌, ◌++◌, drop}
use Rattle.graph_code.specs.Places.{starts_from, width_of}
use Rattle.graph_code.proofs.places.find_places.Given as goal

abbrev pub invariant-loop-vertex : goal.invariant-loop-vertex
invariant-loop-vertex l = record {
  starts : l.starts.items ++ starts_from l.width (drop l.vertex-index l.vertices) ≡ starts_from 0 l.vertices;
  width : l.width + width_of (drop l.vertex-index l.vertices) ≡ width_of l.vertices;
}
