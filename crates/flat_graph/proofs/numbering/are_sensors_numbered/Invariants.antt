use Rattle.std.proofs.Common.{◌≡◌, ◌≤◌, drop}
use Rattle.flat_graph.specs.Valid.{kinds_of, sensors_from}
use Rattle.flat_graph.proofs.numbering.are_sensors_numbered.Given as goal

-- the operations that are left decide
abbrev pub invariant-loop-vertex : goal.invariant-loop-vertex
invariant-loop-vertex l = record {
  left : sensors_from l.next (kinds_of (drop l.vertex-index l.vertices)) ≡ sensors_from 0 (kinds_of l.vertices);
  few : l.next ≤ l.vertex-index;
}
